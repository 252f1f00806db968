use Rattle.std.proofs.Common.{rules, ◌≡◌, length, replicate}
use Rattle.slides.proofs.Slid.{slide-is}
use Rattle.slides.proofs.slide.Goals as goal

pub returns : goal.returns
returns c =
    let n : length c.args.a ≡ 16 = search rules in
    let m : length c.args.b ≡ 16 = search rules in
    slide-is c.args.a c.args.b c.args.k n m c.requires (replicate 16 0) c.copy_from_slice.new.self c.copy_from_slice-2.new.self (λ i. 16) c.copy_from_slice.ensures.after c.copy_from_slice-2.ensures.after
