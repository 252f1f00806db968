use Rattle.moves.proofs.ByName.{named-ok, named-is}
use Rattle.moves.proofs.permutes.named.Goals as goal

pub swizzle : goal.swizzle
swizzle c = named-ok c.args.k c.fits-k.0

pub returns : goal.returns
returns c = named-is c.args.k c.fits-k.0 c.args.v
