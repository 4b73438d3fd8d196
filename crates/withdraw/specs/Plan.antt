-- A withdrawal's plan: when its stores stay inside the slices, what they are, and when they are the definition's.
-- Assumes nothing.
use Rattle.std.specs.Prelude.{ℕ, ◌-◌, ◌^◌, ◌≤◌, ◌<◌, ◌≡◌, ◌⊎◌, Bool, true, false, Option, None, Some, length}
use mathlib.Core.List.{List, [], ◌∷◌, Memᴰ}
use Rattle.model.specs.Tables.{word, next_at, width_of, root_of, free_of, count_of, signature_of}
use Rattle.model.specs.Sound.{Chain, Sound}
use Rattle.model.specs.Stores.{Store, ◌↤◌}
use Rattle.model.specs.File.{spot_of}
use Rattle.model.specs.Withdraw.{block_before, sibling_at, parent_of, withdrawal_stores, unlink_stores, raise_stores, withdraw_stores}
use Rattle.tables.specs.Places.{address_of, IsPlace}
use Rattle.tables.specs.Walk.{NodeFits, Parent}
use Rattle.withdraw.specs.declared.plan.Plan.{Plan}
use Rattle.withdraw.specs.declared.plan.Plan.TheVariants.{Unlink, Lead, Raise}

-- its places stand inside the links, the count does not fall below 0, and what is stored fits a node
abbrev pub PlanFits : ℕ → List ℕ → Option Plan → Type 0
PlanFits B links None = Unit {0}
PlanFits B links (Some (Unlink before next)) = (1 ≤ count_of links) × (1 ≤ before) × (before ≤ B) × (next < 2 ^ 17)
PlanFits B links (Some (Lead place next)) = (1 ≤ count_of links) × IsPlace B place × (next < 2 ^ 17)
PlanFits B links (Some (Raise n)) =
    (1 ≤ count_of links) × IsPlace B n.above × (1 ≤ n.node) × (n.node < B) × (n.sibling < 2 ^ 17) × (n.free < 2 ^ 17) × (n.free ≡ free_of links)

-- there is a plan
abbrev pub is_plan : Option Plan → Bool
is_plan None = false
is_plan (Some p) = true

-- its stores
abbrev pub plan_stores : ℕ → List ℕ → ℕ → Option Plan → List Store
plan_stores B links b None = []
plan_stores B links b (Some (Unlink before next)) = withdrawal_stores links b ((next_at before ↤ next) ∷ [])
plan_stores B links b (Some (Lead place next)) = withdrawal_stores links b ((address_of B place ↤ next) ∷ [])
plan_stores B links b (Some (Raise n)) = raise_stores B links b (address_of B n.above) n.node n.sibling

-- p is a plan of exactly these stores
pub record Plans (B : ℕ) (links : List ℕ) (b : ℕ) (p : Option Plan) (ws : List Store) : Type 0 where
  pub is : is_plan p ≡ true
  pub does : plan_stores B links b p ≡ ws

-- c is the block before b, where the chain from h has b after its head
abbrev pub IsBefore : ℕ → List ℕ → ℕ → ℕ → Option ℕ → Type 0
IsBefore B links b h c = (cs : List ℕ) → Chain B links h cs → Memᴰ b cs → c ≡ Some (block_before links b B h)

-- the plan where b stands after the head h of such a chain
abbrev pub PlansChain : ℕ → List ℕ → ℕ → ℕ → Option Plan → Type 0
PlansChain B links b h p =
    (cs : List ℕ) → 1 ≤ h → h ≤ B → Chain B links h cs → Memᴰ b cs → Plans B links b p (unlink_stores links b (block_before links b B h))

-- the plan that raises a sibling, where the parent is a node that tests a position
abbrev pub PlansRaise : ℕ → ℕ → List ℕ → ℕ → ℕ → ℕ → Option Plan → Type 0
PlansRaise B F links b s above p =
    B < word links above
    → NodeFits B F links (word links above - B)
    → Plans B links b p (raise_stores B links b above (word links above - B) (word links (sibling_at B F links s (word links above - B))))

-- the plan where b is the head of its chain, which has no parent or the definition's
abbrev pub PlansHead : ℕ → ℕ → List ℕ → ℕ → ℕ → ℕ → ℕ → Option Plan → Type 0
PlansHead B F links b s link above p =
    ((root_of links ≤ B) × (above ≡ 0)) ⊎ Parent B F links s above → Plans B links b p (withdraw_stores B F links b s link b (parent_of B F links s))

-- the stores of the definition
abbrev pub stores_of : List ℕ → List ℕ → ℕ → List Store
stores_of sigs links b =
    let B = length sigs in
    let F = width_of links in
    let s = signature_of sigs b in
    withdraw_stores B F links b s (spot_of B F links s) (word links (spot_of B F links s)) (parent_of B F links s)

-- the plan on sound tables
abbrev pub PlansRight : List ℕ → List ℕ → ℕ → Option Plan → Type 0
PlansRight sigs links b p = Sound sigs links → Plans (length sigs) links b p (stores_of sigs links b)
