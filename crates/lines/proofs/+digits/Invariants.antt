-- `lines::digits` meets its contract. The digits before the last are those of a tenth, which falls at each call; the last follows them.
-- Assumes nothing.
use Rattle.lines.proofs.+digits.Given as goal

abbrev pub decreases-digits : goal.decreases-digits
decreases-digits l = l.n
