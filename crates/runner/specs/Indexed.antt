-- The memory of sigrun: what its index holds, and what it holds at the start.
-- Assumes nothing.
use Rattle.std.specs.Prelude.{replicate}
use Rattle.model.specs.PackedLists.{PackedMemory}
use Rattle.sigtree.specs.Face.{lent}
use Rattle.runner.specs.declared.program.Index.{Index}

abbrev pub memory_of : Index → PackedMemory
memory_of i = lent i.signatures i.links i.nodes i.scratch i.marks i.output

-- 1,024 blocks, words for signatures of any width, and all words 0
abbrev pub zeros : PackedMemory
zeros = lent (replicate 8192 0) (replicate 2053 0) (replicate 1023 0) (replicate 1024 0) (replicate 1024 0) (replicate 1024 0)
