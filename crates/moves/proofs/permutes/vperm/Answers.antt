use Rattle.std.proofs.Common.{rules, ◌≡◌, length}
use Rattle.moves.proofs.ByName.{permuted-is}
use Rattle.moves.proofs.permutes.vperm.Goals as goal

pub returns : goal.returns
returns c = let e : length c.args.c ≡ 16 = search rules in
    rw (c.named-x.ensures, c.named-y.ensures) (permuted-is c.args.a c.args.b c.args.c e)
