-- The bytes so far are a number of that many bytes, and behind the last one the shift moves them to the top.
use Rattle.std.proofs.Common.{◌≡◌, ◌+◌, ◌-◌, ◌∙◌, length, drop, get_or, refl, arith}
use Rattle.std.proofs.lemmas.List.{length-drop, take_all, get_or-drop}
use Rattle.bitstream.specs.Stream.{number, unpack}
use Rattle.bitstream.proofs.Windows.{none_sees, number_more, number_small, tail_sees}
use Rattle.bitstream.proofs.read.load_tail.Goals as goal

pub returns-then-s-p : goal.returns-then-s-p
returns-then-s-p c = none_sees c.args.s.now c.args.p 0 (omega arith)

pub bytes-init : goal.bytes-init
unfolding number unpack
bytes-init c = (omega arith, refl)

pub overflow_mul-x : goal.overflow_mul-x
overflow_mul-x c =
    let a = c.args in
    let v = c.bytes in
    omega (arith, v.invariant.1, number_small a.s.now a.p v.byte-index 6 (omega arith))

pub overflow_add-x : goal.overflow_add-x
overflow_add-x c =
    let a = c.args in
    let v = c.bytes in
    omega (arith, v.invariant.1, number_small a.s.now a.p v.byte-index 6 (omega arith))

pub bytes-preserved : goal.bytes-preserved
bytes-preserved c =
    let a = c.args in
    let v = c.bytes in
    let e : c.from.result ≡ get_or a.s.now (a.p + v.byte-index) 0 =
    c.from.ensures ∙ rw (take_all (length a.s.now - a.p) (drop a.p a.s.now) (rw length-drop (omega arith)), get_or-drop a.p a.s.now v.byte-index 0) in (
      omega arith,
      rw (v.invariant.1, e) (number_more a.s.now a.p v.byte-index (λ i. omega (arith, c.type_inv.s i)) (omega arith)),
    )

pub returns : goal.returns
returns c =
    let a = c.args in
    let v = c.bytes in
    let e : v.byte-index ≡ length a.s.now - a.p = omega arith in
    rw v.invariant.1 (rw e (tail_sees a.s.now a.p (length a.s.now - a.p) (omega arith) (omega arith) (omega arith)))
