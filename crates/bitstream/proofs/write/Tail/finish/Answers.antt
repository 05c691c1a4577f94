-- One byte more is stored, and behind the last one no bit waits.
use Rattle.std.proofs.Common.{◌≡◌, ◌+◌, ◌-◌, ◌*◌, ◌/◌, ◌<◌, refl, arith}
use Rattle.std.proofs.lemmas.List.{length-set}
use Rattle.bitstream.proofs.Writes.{put_same, put_byte, put_then, put_done}
use Rattle.bitstream.proofs.write.Tail.finish.Goals as goal

pub bytes-init : goal.bytes-init
bytes-init c = (λ few. put_same c.args.self c.args.out.now _ _ few (omega arith) (omega arith), refl)

pub bytes-preserved : goal.bytes-preserved
bytes-preserved c =
    let t = c.args.self in
    let v = c.bytes in
    let few : t.count - 8 * v.i < 32 = omega arith in
    let less : t.count - 8 * v.i - 8 ≡ t.count - 8 * (v.i + 1) = omega arith in
    let more : t.at + v.i + 1 ≡ t.at + (v.i + 1) = omega arith in (
      λ fewer. put_then (v.invariant.0 few) (rw c.store_byte.ensures (put_byte t.word (t.count - 8 * v.i) (t.at + v.i) v.out few _ _ fewer less more (omega arith))),
      rw (c.store_byte.ensures, length-set) v.invariant.1,
    )

pub returns : goal.returns
returns c =
    let t = c.args.self in
    let v = c.bytes in
    let all : v.i ≡ t.count / 8 = omega arith in
    let few : t.count - 8 * v.i < 32 = omega arith in
    rw (← all) (put_done t.word (t.count - 8 * v.i) (t.at + v.i) v.out few (omega arith) (v.invariant.0 few))
