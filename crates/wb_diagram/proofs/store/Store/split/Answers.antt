use Rattle.wb_diagram.proofs.Push.{IsJoined-interned}
use Rattle.wb_diagram.proofs.store.Store.split.Goals as goal

pub intern-requires : goal.intern-requires
intern-requires c = record {
  placed = record {
    low_below = c.requires.low;
    high_below = c.requires.high;
    apart = c.requires.apart;
    over_low = c.requires.over_low;
    over_high = c.requires.over_high;
    below_leaves = c.requires.variable;
  };
}

pub returns-clause-joined : goal.returns-clause-joined
returns-clause-joined c =
    IsJoined-interned _ _ _ _ _ c.in_ok-number.number c.in_ok-number.ensures.interned c.intern.ensures.forest c.requires.low c.requires.high
