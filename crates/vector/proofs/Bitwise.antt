-- Operations on the bits of a lane: the code is the definition. Assumes nothing.
use Rattle.std.proofs.Common.{◌-◌, bit_and, bit_or, bit_xor, refl}
use Rattle.lanes.specs.declared.Op.TheVariants.{And, AndNot, Or, Xor, Nor, Select}
use Rattle.lanes.specs.declared.Size.TheVariants.{Byte}
use Rattle.lanes.specs.Operations.{lane_op}
use Rattle.lanes.proofs.Bridge.{modulus, value, Law}

pub and : Law Byte And (value (λ x y z. bit_and x y))
unfolding lane_op
and = record { agrees = λ x y z h k l. refl }

pub and_not : Law Byte AndNot (value (λ x y z. bit_and x (modulus Byte - 1 - y)))
unfolding lane_op
and_not = record { agrees = λ x y z h k l. refl }

pub or : Law Byte Or (value (λ x y z. bit_or x y))
unfolding lane_op
or = record { agrees = λ x y z h k l. refl }

pub xor : Law Byte Xor (value (λ x y z. bit_xor x y))
unfolding lane_op
xor = record { agrees = λ x y z h k l. refl }

pub nor : Law Byte Nor (value (λ x y z. modulus Byte - 1 - bit_or x y))
unfolding lane_op
nor = record { agrees = λ x y z h k l. refl }

pub select : Law Byte Select (value (λ x y z. bit_or (bit_and x (modulus Byte - 1 - z)) (bit_and y z)))
unfolding lane_op
select = record { agrees = λ x y z h k l. refl }
