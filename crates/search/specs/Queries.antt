-- The walk's definitions at tables and the number of a query, as the code has them.
-- Assumes nothing.
use Rattle.std.specs.Prelude.{ℕ, List}
use Rattle.model.specs.Tables.{width_of, root_of}
use Rattle.tables.specs.declared.packed.Tables.{Tables}
use Rattle.tables.specs.Held.{signatures_held, held}
use Rattle.search.specs.Budget.{Budget}
use Rattle.search.specs.Search.{chain_twin, leaf_twin, walk_twin, word_twin}

-- what a chain, a leaf, a node's word with u positions untested and the whole tree give
abbrev pub chain_in : Tables → ℕ → ℕ → Budget → List ℕ → Budget × List ℕ
chain_in t q b l m = chain_twin (signatures_held t) t.rows.links.now q l.nodes l.forks l.blocks b m

abbrev pub leaf_in : Tables → ℕ → ℕ → Budget → List ℕ → Budget × List ℕ
leaf_in t q r l m = leaf_twin (signatures_held t) t.rows.links.now q r l m

abbrev pub word_in : Tables → ℕ → ℕ → ℕ → Budget → List ℕ → Budget × List ℕ
word_in t q u w l m = word_twin u (signatures_held t) (held t) q w l m

abbrev pub walk_in : Tables → ℕ → Budget → List ℕ → Budget × List ℕ
walk_in t q l m = walk_twin (width_of t.rows.links.now) (signatures_held t) (held t) q (root_of t.rows.links.now) l m
