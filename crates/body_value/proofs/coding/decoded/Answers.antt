-- The first value as it is; a later one with the statistics held, which step behind it.
use Rattle.std.proofs.Common.{◌≡◌, ◌≤◌, arith, length, drop}
use Rattle.bitstream.specs.Stream as stream
use Rattle.bitstream.specs.Stream.{unpack}
use Rattle.std.proofs.lemmas.Result.{err_from_is_err_and}
use Rattle.bitstream.specs.Reader.{unread}
use Rattle.coder.specs.Codeword.{parse}
use Rattle.coder.specs.Statistics.{parameter}
use Rattle.body_value.proofs.Codes.{plain_at, first_decoded, counting, keeping, getting, off_is, delta_small, later_found}
use Rattle.body_value.proofs.coding.decoded.Goals as goal

pub get-requires : goal.get-requires
get-requires c =
    plain_at c.requires

pub returns-then-t-eq0 : goal.returns-then-t-eq0
returns-then-t-eq0 c =
    first_decoded c.requires (unpack c.args.bits.file.now) c.args.t c.if-t-eq0.true c.get.result c.get.ensures

pub get_value-requires : goal.get_value-requires
get_value-requires c =
    getting c.requires c.held-old.ensures

pub next_statistics-new-requires : goal.next_statistics-new-requires
next_statistics-new-requires c =
    let parsed : let a = c.args in
    (parse a.p.settings.image.depth a.p.settings.coder.unary (parameter a.p.settings.image.depth c.held-old.result) (drop a.bits.at (unpack a.bits.file.now))
    ≡ stream.ok c.in_ok-delta.delta (drop c.in_ok-delta.next (unpack a.bits.file.now))) × (c.in_ok-delta.next ≤ length (unpack a.bits.file.now)) =
    rw c.in_ok-delta.was at c.get_value.ensures in
    counting c.args.p c.requires.fit c.held-old.ensures (delta_small c.requires c.held-old.ensures (unpack c.args.bits.file.now) c.args.t (let n = c.if-t-eq0.false in omega arith) parsed)

pub keep-requires : goal.keep-requires
keep-requires c =
    let parsed : let a = c.args in
    (parse a.p.settings.image.depth a.p.settings.coder.unary (parameter a.p.settings.image.depth c.held-old.result) (drop a.bits.at (unpack a.bits.file.now))
    ≡ stream.ok c.in_ok-delta.delta (drop c.in_ok-delta.next (unpack a.bits.file.now))) × (c.in_ok-delta.next ≤ length (unpack a.bits.file.now)) =
    rw c.in_ok-delta.was at c.get_value.ensures in
    keeping c.args.p c.requires.fit c.held-old.ensures (delta_small c.requires c.held-old.ensures (unpack c.args.bits.file.now) c.args.t (let n = c.if-t-eq0.false in omega arith) parsed) c.next_statistics-new.ensures

pub returns : goal.returns
returns c =
    let parsed : let a = c.args in
    (parse a.p.settings.image.depth a.p.settings.coder.unary (parameter a.p.settings.image.depth c.held-old.result) (drop a.bits.at (unpack a.bits.file.now))
    ≡ stream.ok c.in_ok-delta.delta (drop c.in_ok-delta.next (unpack a.bits.file.now))) × (c.in_ok-delta.next ≤ length (unpack a.bits.file.now)) =
    rw c.in_ok-delta.was at c.get_value.ensures in
    later_found c.requires c.held-old.ensures (unpack c.args.bits.file.now) c.args.t (let n = c.if-t-eq0.false in omega arith) parsed c.next_statistics-new.ensures c.keep.ensures

pub returns-in_err-delta : goal.returns-in_err-delta
returns-in_err-delta c =
    let p = err_from_is_err_and c.from_residual.result c.from_residual.ensures.1 in
    let missed : let a = c.args in parse a.p.settings.image.depth a.p.settings.coder.unary (parameter a.p.settings.image.depth c.held-old.result) (drop a.bits.at (unpack a.bits.file.now)) ≡ unread c.in_err-delta.field-0.0 =
    rw c.in_err-delta.was at c.get_value.ensures in
    rw (p.1, p.2) (off_is c.requires c.held-old.ensures (unpack c.args.bits.file.now) c.args.t (let n = c.if-t-eq0.false in omega arith) (unread c.in_err-delta.field-0.0) missed)
