-- Each form is tables of which question 4 says yes.
-- Assumes nothing.
use Rattle.std.specs.Prelude.{ℕ, List, [], ◌≡◌, refl}
use mathlib.Core.Logic.{inl, inr}
use mathlib.Core.List.{append-nil}
use Rattle.model.specs.Packed.{opened, unpacked}
use Rattle.tables.specs.Fits.{RowsFit, FitsPacked, FitsUnpacked, Fits}

pub packed_fits : (sigs words links nodes : List ℕ) → RowsFit sigs links → FitsPacked sigs words links nodes → Fits sigs links nodes
packed_fits sigs words links nodes R P = record { form = inl P.packs; rows = R }

pub unpacked_fits : (sigs words links : List ℕ) → RowsFit sigs links → FitsUnpacked sigs words links → Fits sigs links []
unpacked_fits sigs words links R A = record { form = inr (A.fits.links_long, refl); rows = R }

-- with no nodes beside them, the links are the tables held
no_nodes : (links : List ℕ) → unpacked links [] ≡ links
unfolding unpacked opened
no_nodes links = append-nil links

pub unpacked_held : (sigs words links : List ℕ) → FitsUnpacked sigs words links → FitsUnpacked sigs words (unpacked links [])
unpacked_held sigs words links A = rw (no_nodes links) A

pub packed_held : (sigs words links nodes : List ℕ) → FitsPacked sigs words links nodes → FitsUnpacked sigs words (unpacked links nodes)
packed_held sigs words links nodes A = record { fits = A.fits; spelt = A.spelt; long = A.long }
