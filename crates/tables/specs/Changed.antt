-- What a store to lent tables leaves, by the links of document 01 that they hold.
-- Assumes nothing.
use Rattle.std.specs.Prelude.{ℕ, List, [], ◌∷◌, ◌+◌, ◌-◌, ◌≡◌, ◌≤◌, length}
use Rattle.model.specs.Limits.{most_blocks}
use Rattle.model.specs.Tables.{position_at, side_at}
use Rattle.model.specs.Stores.{Store, ◌↤◌}
use Rattle.model.specs.Packed.{unpacked, Packs}
use Rattle.tables.specs.declared.packed.Tables.{Tables}
use Rattle.tables.specs.declared.lent.TablesMut.{TablesMut}

-- the links that the slices hold
abbrev pub links_in : TablesMut → List ℕ
links_in t = unpacked t.links.now t.nodes.now

-- one block more than nodes, and not too many
abbrev pub blocks_in : TablesMut → ℕ
blocks_in t = length t.nodes.now + 1

abbrev pub PacksIn : TablesMut → Type 0
PacksIn t = Packs (blocks_in t) t.links.now t.nodes.now × (blocks_in t ≤ most_blocks)

-- the tables that are read of them
abbrev pub IsRead : TablesMut → Tables → Type 0
IsRead t r = (r.rows.signatures.now ≡ t.signatures.now) × (r.rows.links.now ≡ t.links.now) × (r.nodes.now ≡ t.nodes.now)

-- the stores of all of node i: its position, x on its side e and y on the other
abbrev pub node_stores : ℕ → ℕ → ℕ → ℕ → ℕ → ℕ → List Store
node_stores B i p e x y = (position_at B i ↤ p) ∷ (side_at B i e ↤ x) ∷ (side_at B i (1 - e) ↤ y) ∷ []

-- the three references are those that they were: what is written behind them is written to the caller's slices
pub record SameLoans (old new : TablesMut) : Type 0 where
  pub signatures : new.signatures.ghost_name ≡ old.signatures.ghost_name
  pub links : new.links.ghost_name ≡ old.links.ghost_name
  pub nodes : new.nodes.ghost_name ≡ old.nodes.ghost_name

-- the slices hold these links now and are as long as they were; the signatures are untouched
pub record Becomes (old new : TablesMut) (links' : List ℕ) : Type 0 where
  pub words : links_in new ≡ links'
  pub links_long : length new.links.now ≡ length old.links.now
  pub nodes_long : length new.nodes.now ≡ length old.nodes.now
  pub signatures : new.signatures.now ≡ old.signatures.now
  pub loans : SameLoans old new

-- the signatures are these words now, and all else is as it was
pub record Signs (old new : TablesMut) (words' : List ℕ) : Type 0 where
  pub words : new.signatures.now ≡ words'
  pub links : new.links.now ≡ old.links.now
  pub nodes : new.nodes.now ≡ old.nodes.now
  pub loans : SameLoans old new
