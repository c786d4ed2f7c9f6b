use Rattle.std.proofs.Common.{◌≡◌, ◌<◌, List, length, slice_index_or, subst}
use Rattle.wb_explore.specs.declared.entries.Entry.{Entry}
use Rattle.wb_explore.proofs.arrivals.arrive.Goals as goal

pub returns-in-Some-clause-alone : goal.returns-in-Some-clause-alone
returns-in-Some-clause-alone c = λ alone.
    absurd (alone c.in-Some.place c.args.entry
    (subst (λ (es : List Entry). c.in-Some.place < length es) c.deref.ensures.value c.in-Some.ensures.0)
    (subst (λ (es : List Entry). (slice_index_or es c.in-Some.place c.args.entry).key ≡ c.args.entry.key) c.deref.ensures.value (c.in-Some.ensures.1 c.args.entry)))
