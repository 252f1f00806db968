-- The width of a lane, and operands that are lanes of it, which the laws of the operations speak of. Assumes nothing.
use Rattle.std.specs.Prelude.{◌≡◌, ℕ, ◌+◌, ◌/◌, ◌^◌, ◌<◌, ◌≤◌}
use Rattle.lanes.specs.declared.Lane.{Lane}
use Rattle.lanes.specs.declared.Operands.{Operands}
use Rattle.lanes.specs.declared.Op.{Op}
use Rattle.lanes.specs.Operations.{lane_op}

-- w is the width of a lane, and m is 2 ^ w
pub record Width (w m : ℕ) : Type 0 where
  pub some : 0 < w
  pub most : w ≤ 32
  pub power : m ≡ 2 ^ w
  pub wide : 1 < m
  pub small : m ≤ 2 ^ 32
  pub even : m ≡ m / 2 + m / 2

-- the operands are lanes of w bits
pub record InLane (w m : ℕ) (o : Operands) : Type 0 where
  pub width : Width w m
  pub left : o.x < m
  pub right : o.y < m
  pub third : o.z < m

abbrev pub lane_of : Op → ℕ → ℕ → Operands → Lane
lane_of op w m o = lane_op op w m o.x o.y o.z
