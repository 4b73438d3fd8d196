-- A filing's plan: when its stores stay inside the slices, what they are, and that on sound tables they are the definition's.
-- Assumes nothing.
use Rattle.std.specs.Prelude.{ℕ, ◌^◌, ◌≤◌, ◌<◌, ◌≡◌, Bool, true, false, List, [], Option, None, Some, length}
use Rattle.model.specs.Limits.{widest}
use Rattle.model.specs.Signature.{bit_at, first_difference}
use Rattle.model.specs.Tables.{free_of, count_of, filed_of}
use Rattle.model.specs.Sound.{Sound}
use Rattle.model.specs.Stores.{Store, stores}
use Rattle.model.specs.File.{first_stores, chain_stores, split_stores, file_links}
use Rattle.tables.specs.declared.place.Place.{Place}
use Rattle.tables.specs.declared.side.Side.{Side}
use Rattle.tables.specs.Places.{address_of, IsPlace}
use Rattle.tables.specs.Sides.{side_number}
use Rattle.file.specs.declared.plan.Plan.{Plan}
use Rattle.file.specs.declared.plan.Plan.TheVariants.{First, Join, Split}

-- its places stand inside the links, and the count can grow
abbrev pub PlanFits : ℕ → List ℕ → Option Plan → Type 0
PlanFits B links None = Unit {0}
PlanFits B links (Some First) = count_of links < B
PlanFits B links (Some (Join h)) = (count_of links < B) × (1 ≤ h) × (h ≤ B)
PlanFits B links (Some (Split n)) = (count_of links < B) × IsPlace B n.place × (1 ≤ n.node) × (n.node < B) × (n.leaf ≤ B) × (n.position ≤ widest)

-- there is a plan
abbrev pub is_plan : Option Plan → Bool
is_plan None = false
is_plan (Some p) = true

-- its stores
abbrev pub plan_stores : ℕ → List ℕ → ℕ → Option Plan → List Store
plan_stores B links b None = []
plan_stores B links b (Some First) = first_stores links b
plan_stores B links b (Some (Join h)) = chain_stores links b h
plan_stores B links b (Some (Split n)) = split_stores B links b (address_of B n.place) n.leaf n.node n.position (side_number n.side)

-- at a leaf h of another signature a, whose reference stands at this place: where there is a free node, the definition's split
abbrev pub SplitPlan : ℕ → ℕ → List ℕ → ℕ → Place → ℕ → ℕ → Option Plan → Type 0
SplitPlan B F links s place h a plan =
    1 ≤ free_of links
    → free_of links < B
    → a < 2 ^ F
    → (side : Side) × (side_number side ≡ bit_at F s (first_difference F s a)) × (plan ≡ Some (Split (record { node = free_of links; place = place; leaf = h; position = first_difference F s a; side = side })))

-- on sound tables there is a plan for an unfiled block, and it leaves the links that File leaves
abbrev pub Plans : List ℕ → List ℕ → ℕ → ℕ → Option Plan → Type 0
Plans sigs links b s plan = Sound sigs links → filed_of links b ≡ 0 → (is_plan plan ≡ true) × (stores links (plan_stores (length sigs) links b plan) ≡ file_links sigs links b s)
