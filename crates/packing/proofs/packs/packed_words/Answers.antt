use Rattle.packing.proofs.packs.packed_words.Goals as goal

pub returns-clause-is : goal.returns-clause-is
returns-clause-is c = rw (c.to_halves.ensures, c.words_of.ensures.is)
