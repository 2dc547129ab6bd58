use Rattle.std.proofs.Common.{arith}
use Rattle.values.proofs.CalendarLaws.{field-more}
use Rattle.values.proofs.calendar.fraction.Goals as goal

pub returns-else-v-lt26 : goal.returns-else-v-lt26
returns-else-v-lt26 c s = field-more _ 20 4 (omega arith) c.four.ensures.number c.two.ensures.number
