-- The answers of supply and of the set of dates: what is asked for, or why it is refused.
use Rattle.std.specs.Prelude.{Result}
use Rattle.refusal.specs.declared.Refusal.{Refusal}
use Rattle.supply.specs.declared.Dates.{Dates}
use Rattle.supply.specs.declared.Lasting.{Lasting}

abbrev pub Supply : Type 0
Supply = Result Lasting Refusal

abbrev pub DateSet : Type 0
DateSet = Result Dates Refusal
