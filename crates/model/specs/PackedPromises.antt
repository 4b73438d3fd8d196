-- What each call promises of packed tables (Ticket 11): lengths that do not fit get 4, and nothing changes; where they
-- fit, the promise of the tables that the slices hold, and slices that are as long as before, and untouched where the call is refused.
-- Assumes nothing.
use Rattle.std.specs.Prelude.{ℕ, ◌-◌, ◌≡◌, ◌≢◌, Bool, true, false, ◌&&◌, List, eqb, length}
use Rattle.model.specs.Tables.{links_of, blocks_of}
use Rattle.model.specs.Packed.{rows_of, packed_blocks, unpacked, packed_links, packed_nodes}
use Rattle.model.specs.Questions.{Asked, blocks_fit, asks_tables}
use Rattle.model.specs.Ledger.{Report, bare}
use Rattle.model.specs.Promises.{ClearPromise, FilePromise, WithdrawPromise, RebuildPromise, AuditPromise, SearchPromise}

-- question 4 of packed tables: do the lengths of links and nodes, and B, fit? That of the signatures is asked of the tables that they hold.
abbrev pub packed_fit : List ℕ → List ℕ → Bool
packed_fit links nodes = blocks_fit (packed_blocks links) && eqb (length links) (rows_of (packed_blocks links)) && eqb (length nodes) (packed_blocks links - 1)

-- what packed tables say, as those that they hold: their lengths fit only where the packed ones do
abbrev pub asks_packed : List ℕ → List ℕ → List ℕ → Asked
asks_packed words links nodes =
    let A = asks_tables words (unpacked links nodes) in
    record { lengths = packed_fit links nodes && A.lengths; lent = A.lent; words = A.words; width = A.width; blocks = A.blocks; filed = A.filed }

-- the slices of packed tables after a call with this answer
pub record Stays (answer : ℕ) (links nodes links' nodes' : List ℕ) : Type 0 where
  pub rows_long : length links' ≡ length links
  pub nodes_long : length nodes' ≡ length nodes
  pub untouched : answer ≢ 0 → (links' ≡ links) × (nodes' ≡ nodes)

-- a call of packed tables, by the promise Old of the tables that they hold
pub record Packed (fit : Bool) (Untouched Old : Type 0) (answer : ℕ) : Type 0 where
  pub unfit : fit ≡ false → (answer ≡ 4) × Untouched
  pub asked : fit ≡ true → Old

-- a call that may change the signatures
abbrev pub PackedChange : List ℕ → List ℕ → List ℕ → ℕ → List ℕ → List ℕ → List ℕ → Type 0 → Type 0
PackedChange words links nodes answer words' links' nodes' Old =
    Packed (packed_fit links nodes) ((words' ≡ words) × (links' ≡ links) × (nodes' ≡ nodes)) (Old × Stays answer links nodes links' nodes') answer

abbrev pub PackedClear : List ℕ → List ℕ → List ℕ → ℕ → ℕ → List ℕ → List ℕ → List ℕ → Type 0
PackedClear words links nodes F answer words' links' nodes' =
    PackedChange words links nodes answer words' links' nodes' (ClearPromise words (unpacked links nodes) F answer words' (unpacked links' nodes'))

-- by the signature's words
abbrev pub PackedFile : List ℕ → List ℕ → List ℕ → ℕ → List ℕ → ℕ → List ℕ → List ℕ → List ℕ → Type 0
PackedFile words links nodes b s answer words' links' nodes' =
    PackedChange words links nodes answer words' links' nodes' (FilePromise words (unpacked links nodes) b s answer words' (unpacked links' nodes'))

abbrev pub PackedWithdraw : List ℕ → List ℕ → List ℕ → ℕ → ℕ → List ℕ → List ℕ → List ℕ → Type 0
PackedWithdraw words links nodes b answer words' links' nodes' =
    PackedChange words links nodes answer words' links' nodes' (WithdrawPromise words (unpacked links nodes) b answer words' (unpacked links' nodes'))

abbrev pub PackedRebuild : List ℕ → List ℕ → List ℕ → List ℕ → ℕ → List ℕ → List ℕ → List ℕ → Type 0
PackedRebuild words links nodes scratch answer links' nodes' scratch' =
    Packed (packed_fit links nodes) ((links' ≡ links) × (nodes' ≡ nodes) × (scratch' ≡ scratch))
    (RebuildPromise words (unpacked links nodes) scratch answer (unpacked links' nodes') scratch' × Stays answer links nodes links' nodes') answer

abbrev pub PackedAudit : List ℕ → List ℕ → List ℕ → ℕ → Type 0
PackedAudit words links nodes answer = Packed (packed_fit links nodes) (Unit {0}) (AuditPromise words (unpacked links nodes) answer) answer

-- by the query's words
abbrev pub PackedSearch : List ℕ → List ℕ → List ℕ → List ℕ → List ℕ → List ℕ → Report → List ℕ → List ℕ → Type 0
PackedSearch words links nodes q marks output o marks' output' =
    Packed (packed_fit links nodes) ((o ≡ bare 4) × (marks' ≡ marks) × (output' ≡ output))
    (SearchPromise words (unpacked links nodes) q marks output o marks' output') o.answer

-- The conversions: question 4, the target's lengths included, then 11; refused, the target is untouched. The source is only read.
-- Packed slices for tables of 5 * B + 2 links:
abbrev pub pack_fits : List ℕ → List ℕ → List ℕ → Bool
pack_fits old links nodes = eqb (length links) (rows_of (blocks_of old)) && eqb (length nodes) (blocks_of old - 1)

pub record PackPromise (words old links nodes : List ℕ) (answer : ℕ) (links' nodes' : List ℕ) : Type 0 where
  pub unfit : pack_fits old links nodes ≡ false → (answer ≡ 4) × (links' ≡ links) × (nodes' ≡ nodes)
  pub asked : pack_fits old links nodes ≡ true → AuditPromise words old answer × (answer ≢ 0 → (links' ≡ links) × (nodes' ≡ nodes))
  pub done : answer ≡ 0 → (links' ≡ packed_links (blocks_of old) old) × (nodes' ≡ packed_nodes (blocks_of old) old)

-- and back
abbrev pub unpack_fits : List ℕ → List ℕ → List ℕ → Bool
unpack_fits links nodes old = packed_fit links nodes && eqb (length old) (links_of (packed_blocks links))

pub record UnpackPromise (words links nodes old : List ℕ) (answer : ℕ) (old' : List ℕ) : Type 0 where
  pub unfit : unpack_fits links nodes old ≡ false → (answer ≡ 4) × (old' ≡ old)
  pub asked : unpack_fits links nodes old ≡ true → AuditPromise words (unpacked links nodes) answer × (answer ≢ 0 → old' ≡ old)
  pub done : answer ≡ 0 → old' ≡ unpacked links nodes
