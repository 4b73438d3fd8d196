-- `lines::digits` meets its contract. The digits before the last are those of a tenth, which falls at each call; the last follows them.
-- Assumes nothing.
use Rattle.lines.proofs.Laws.{decimal_one, decimal_more, puts_then, puts_as}
use mathlib.Core.Path.{sym}
use Rattle.lines.proofs.+digits.Goals as goal

pub returns-then-n-lt10 : goal.returns-then-n-lt10
returns-then-n-lt10 t c = puts_as _ _ _ _ _ _ (sym (decimal_one _ c.if-n-lt10.true)) c.push.ensures

pub returns : goal.returns
returns t c =
    puts_as _ _ _ _ _ _ (sym (decimal_more _ c.if-n-lt10.false)) (puts_then _ _ _ _ _ _ _ _ c.digits-next.ensures c.push-2.ensures)
