use Rattle.std.proofs.Common.{◌≤◌, ◌<◌, sym, refl, arith, length}
use Rattle.wb_port.proofs.Turning.{gave, goes_left, goes_held, ends_plain, ends_held}
use Rattle.wb_port.proofs.replays.Progress.turn.Goals as goal

pub returns-then-requested-clause-turned : goal.returns-then-requested-clause-turned
returns-then-requested-clause-turned c =
    gave c.args.image.now c.args.pace c.args.held c.args.talk.now c.args.self.now c.give.new.self c.at-access.result
    c.at-access.ensures (sym c.if-requested.ensures) c.give.ensures.chip
    c.give.ensures.given c.give.ensures.said

pub returns-then-self-len-clause-turned : goal.returns-then-self-len-clause-turned
returns-then-self-len-clause-turned c =
    let less : c.args.self.now.given < length c.args.talk.now.accesses = let e = c.len.ensures in omega arith in
    goes_left c.args.image.now c.args.pace c.args.held c.args.talk.now c.args.self.now _ _ less
    (sym c.if-requested.ensures) (c.go.ensures.turned c.args.talk.now)

pub returns-then-not-held-clause-turned : goal.returns-then-not-held-clause-turned
returns-then-not-held-clause-turned c =
    let most : length c.args.talk.now.accesses ≤ c.args.self.now.given = let e = c.len.ensures in omega arith in
    (ends_plain c.args.image.now c.args.pace c.args.held c.args.talk.now c.args.self.now most c.if-not-held.true, refl)

pub returns-then-is_waiting-clause-turned : goal.returns-then-is_waiting-clause-turned
returns-then-is_waiting-clause-turned c =
    let most : length c.args.talk.now.accesses ≤ c.args.self.now.given = let e = c.len.ensures in omega arith in
    (ends_held c.args.image.now c.args.pace c.args.held c.args.talk.now c.args.self.now most c.if-not-held.false (sym c.if-is_waiting.ensures), refl)

pub returns-clause-turned : goal.returns-clause-turned
returns-clause-turned c =
    let most : length c.args.talk.now.accesses ≤ c.args.self.now.given = let e = c.len.ensures in omega arith in
    goes_held c.args.image.now c.args.pace c.args.held c.args.talk.now c.args.self.now _ _ most
    c.if-not-held.false (sym c.if-is_waiting.ensures) (c.go-2.ensures.turned c.args.talk.now)
