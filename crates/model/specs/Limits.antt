-- The limits of the index (document 01), named once: nothing else in the definitions knows these numbers. Those of texts stand in Words.antt.
-- Assumes nothing.
use Rattle.std.specs.Prelude.{ℕ}

-- the widest width: F is 1 to this
abbrev pub widest : ℕ
widest = 512

-- the largest number of blocks: B is 1 to this
abbrev pub most_blocks : ℕ
most_blocks = 65535

-- the bits of a word in which signatures are lent
abbrev pub word_bits : ℕ
word_bits = 64
