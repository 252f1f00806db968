use Rattle.packing.proofs.packs.packed_halves.Goals as goal

pub returns-clause-is : goal.returns-clause-is
returns-clause-is c = rw (c.to_bytes.ensures, c.halves_of.ensures.is)
