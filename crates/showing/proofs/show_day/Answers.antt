use Rattle.showing.specs.Showing.{stretch_of, shown}
use Rattle.showing.proofs.show_day.Goals as goal

pub returns-clause-result_value : goal.returns-clause-result_value
unfolding shown stretch_of
returns-clause-result_value c = rw (← c.wanted.ensures.value) c.show_in.ensures.result_value
