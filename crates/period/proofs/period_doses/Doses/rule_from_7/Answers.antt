use native.Mathlib.Omega.{arith}
use borrow.Author.Rules.{rules}
use Rattle.period.proofs.Ruling as ruling
use Rattle.period.proofs.period_doses.Doses.rule_from_7.Goals as goal

pub returns-then-s-eq7 : goal.returns-then-s-eq7
returns-then-s-eq7 c =
    let d = c.args.self in
    (ruling.is_7 _ _ d.limited d.counted c.requires c.if-s-eq7.true, search rules)

pub returns-then-is_past : goal.returns-then-is_past
returns-then-is_past c =
    let d = c.args.self in
    (ruling.is_past_lem _ _ d.limited d.counted c.requires c.if-s-eq7.false c.is_past.ensures c.if-is_past.true, search rules)

pub returns-then-is_any_day : goal.returns-then-is_any_day
returns-then-is_any_day c =
    let d = c.args.self in
    (ruling.is_8 _ _ d.limited d.counted c.requires c.if-s-eq7.false c.is_past.ensures c.if-is_past.false c.is_any_day.ensures c.if-is_any_day.true, search rules)

pub returns-then-s-lt10 : goal.returns-then-s-lt10
returns-then-s-lt10 c =
    let d = c.args.self in
    (ruling.is_9 _ _ d.limited d.counted c.requires c.if-s-eq7.false c.is_past.ensures c.if-is_past.false c.is_any_day.ensures c.if-is_any_day.false c.if-s-lt10.true, search rules)

pub is_any_twice-requires : goal.is_any_twice-requires
is_any_twice-requires c = (omega arith, c.requires)

pub returns-then-is_any_twice : goal.returns-then-is_any_twice
returns-then-is_any_twice c =
    let d = c.args.self in
    (ruling.is_10 _ _ d.limited d.counted c.requires c.if-s-eq7.false c.is_past.ensures c.if-is_past.false c.is_any_day.ensures c.if-is_any_day.false c.if-s-lt10.false c.is_any_twice.ensures c.if-is_any_twice.true, search rules)

pub returns-then-s-lt12 : goal.returns-then-s-lt12
returns-then-s-lt12 c =
    let d = c.args.self in
    (ruling.is_11 _ _ d.limited d.counted c.requires c.if-s-eq7.false c.is_past.ensures c.if-is_past.false c.is_any_day.ensures c.if-is_any_day.false c.if-s-lt10.false c.is_any_twice.ensures c.if-is_any_twice.false c.if-s-lt12.true, search rules)

pub returns-then-is_both : goal.returns-then-is_both
returns-then-is_both c =
    let d = c.args.self in
    (ruling.is_12 _ _ d.limited d.counted c.requires c.if-s-eq7.false c.is_past.ensures c.if-is_past.false c.is_any_day.ensures c.if-is_any_day.false c.if-s-lt10.false c.is_any_twice.ensures c.if-is_any_twice.false c.if-s-lt12.false c.is_both.ensures c.if-is_both.true, search rules)

pub returns-then-s-lt14 : goal.returns-then-s-lt14
returns-then-s-lt14 c =
    let d = c.args.self in
    (ruling.is_13 _ _ d.limited d.counted c.requires c.if-s-eq7.false c.is_past.ensures c.if-is_past.false c.is_any_day.ensures c.if-is_any_day.false c.if-s-lt10.false c.is_any_twice.ensures c.if-is_any_twice.false c.if-s-lt12.false c.is_both.ensures c.if-is_both.false c.if-s-lt14.true, search rules)

pub is_too_much-requires : goal.is_too_much-requires
is_too_much-requires c =
    let most = c.args.self.few in
    let room = c.requires.room in
    record {
      from = omega (arith, room.from);
      marked = omega (arith, room.marked);
      big = omega (arith, room.big);
      small = omega (arith, room.small);
    }

pub returns-then-is_too_much : goal.returns-then-is_too_much
returns-then-is_too_much c =
    let d = c.args.self in
    (ruling.is_14 _ _ d.limited d.counted c.requires c.if-s-eq7.false c.is_past.ensures c.if-is_past.false c.is_any_day.ensures c.if-is_any_day.false c.if-s-lt10.false c.is_any_twice.ensures c.if-is_any_twice.false c.if-s-lt12.false c.is_both.ensures c.if-is_both.false c.if-s-lt14.false c.is_too_much.ensures c.if-is_too_much.true, search rules)

pub returns : goal.returns
returns c =
    let d = c.args.self in
    (ruling.is_15 _ _ d.limited d.counted c.requires c.if-s-eq7.false c.is_past.ensures c.if-is_past.false c.is_any_day.ensures c.if-is_any_day.false c.if-s-lt10.false c.is_any_twice.ensures c.if-is_any_twice.false c.if-s-lt12.false c.is_both.ensures c.if-is_both.false c.if-s-lt14.false c.is_too_much.ensures c.if-is_too_much.false, search rules)
