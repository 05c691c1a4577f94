-- The first value as it is; a later one with the statistics held, which step behind it.
use Rattle.std.proofs.Common.{arith}
use Rattle.body_value.proofs.Codes.{plain_in, first_coded, counting, keeping, putting, later_coded}
use Rattle.body_value.proofs.coding.coded.Goals as goal

pub put-requires : goal.put-requires
put-requires c =
    plain_in c.requires

pub returns-then-t-eq0 : goal.returns-then-t-eq0
returns-then-t-eq0 c =
    first_coded c.requires c.args.t c.if-t-eq0.true c.put.ensures

pub next_statistics-new-requires : goal.next_statistics-new-requires
next_statistics-new-requires c =
    counting c.args.p c.requires.fit c.held-old.ensures c.requires.small

pub keep-requires : goal.keep-requires
keep-requires c =
    keeping c.args.p c.requires.fit c.held-old.ensures c.requires.small c.next_statistics-new.ensures

pub put_value-requires : goal.put_value-requires
put_value-requires c =
    putting c.requires c.held-old.ensures

pub returns : goal.returns
returns c =
    later_coded c.requires c.held-old.ensures c.args.t (let n = c.if-t-eq0.false in omega arith) c.next_statistics-new.ensures c.keep.ensures c.put_value.ensures
