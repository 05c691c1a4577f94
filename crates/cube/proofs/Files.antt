-- Header, body and fill put one behind the other, and the rest stored, are the file.
use mathlib.Core.Path.{◌≡◌, sym, ◌∙◌, ap}
use mathlib.Core.Bool.{false}
use mathlib.Core.List.{List, [], ◌++◌}
use Prim.Native.Nat.{ℕ, ◌+◌, ◌*◌, ◌/◌, ◌^◌, ◌≤◌}
use native.Mathlib.Nat.{mul-div_right}
use native.Mathlib.Omega.{arith}
use lib.IntN.{ℤ}
use lib.ListN.{length, drop, length-replicate}
use Rattle.bitstream.specs.declared.write.Tail.{Tail}
use Rattle.bitstream.specs.Stream.{Bytes, zeros, filling, filled, pack}
use Rattle.bitstream.proofs.Laws.{length_pack, filling_lt}
use Rattle.bitstream.specs.Writer.{Holds, Put, Done}
use Rattle.bitstream.proofs.Writes.{further, put_as, put_then, put_filled, done_file}
use Rattle.settings.specs.declared.Settings.{Settings}
use Rattle.settings.specs.Limits.{most_body_bits}
use Rattle.settings.specs.LegalLaws.{legal_settings, limited_facts}
use Rattle.settings.specs.RangeLaws.{all_in_range}
use Rattle.settings.specs.CheckLaws.{Fine}
use Rattle.header.specs.Write.{header}
use Rattle.header.specs.Sizes.{most_header_bits}
use Rattle.header.specs.SizeLaws.{header_bits_most}
use Rattle.body.specs.Body.{body}
use Rattle.body_value.specs.declared.plan.Plan.{Plan}
use Rattle.body_walk.specs.Whole.{Starts}
use Rattle.cube.specs.File.{file_bits, file}
use Rattle.cube.specs.Writing.{Written}
use Rattle.cube.specs.SizeLaws.{body_most}

pub file_written : (S : Settings) (tables samples : List ℤ) {t0 t1 t2 t3 : Tail} {o o1 o2 o3 o4 : List ℕ} (n : ℕ)
    → ((out : List ℕ) → Holds out t0 [])
    → Put t0 o (header S tables) t1 o1
    → Put t1 o1 (body S tables samples) t2 o2
    → Put t2 o2 (zeros (filling (8 * S.image.word) (8 * t2.at + t2.count))) t3 o3
    → Done t3 o3 n o4 → Bytes o4 → Written S tables samples o n o4
unfolding file file_bits
file_written S tables samples {t0} {t1} {t2} {t3} {o} {o1} {o2} {o3} {o4} n start h b f d bytes =
    let p = put_then h b in
    let held : Holds o3 t3 (filled (8 * S.image.word) (header S tables ++ body S tables samples)) =
    put_filled (8 * S.image.word) (p.holds [] (start o)) f in
    let whole = put_then p f in
    let size : 8 * n ≡ length (filled (8 * S.image.word) (header S tables ++ body S tables samples)) = (d.holds _ held).0 in
    let behind : drop n o3 ≡ drop n o = further t3.at n o o3 (let s = d.size in omega arith) whole.rest in
    record {
      size = sym (length_pack _ ∙ ap (λ (x : ℕ). x / 8) (sym size) ∙ mul-div_right n (omega arith));
      stored = λ l. done_file d held l bytes ∙ ap (λ (x : List ℕ). pack (filled (8 * S.image.word) (header S tables ++ body S tables samples)) ++ x) behind;
    }

-- ---- what each step asks for

pub fine_starts : (S : Settings) (P : Plan) (tables samples scratch scratch' : List ℤ) (k : Tail) → Fine S tables samples (length scratch) → P.settings ≡ S
    → length scratch' ≡ length scratch → k.at ≤ 2 ^ 32 → Starts P tables samples scratch' k
fine_starts S P tables samples scratch scratch' k fine p l a =
    let f : Fine P.settings tables samples (length scratch) = rw p fine in
    record {
      tabled = record { values = f.values; area = f.room.tables_hold; long = let h = f.room.scratch_holds in omega arith };
      image = record { legal = f.legal; within = f.small; long = f.counted; ranged = all_in_range P.settings.image samples f.in_range_lem };
      at = a;
    }

-- the body of the plan's settings
pub body_of : (S T : Settings) (tables samples : List ℤ) {k k' : Tail} {o o' : List ℕ} → T ≡ S → Put k o (body T tables samples) k' o'
    → Put k o (body S tables samples) k' o'
body_of S T tables samples p h = put_as (ap (λ (Q : Settings). body Q tables samples) p) h

-- where the stream stands behind the header, and behind the body
pub headed_small : (S : Settings) (tables samples : List ℤ) (n : ℕ) {t0 t1 : Tail} {o o1 : List ℕ} → Fine S tables samples n
    → Holds o t0 [] → Put t0 o (header S tables) t1 o1 → 8 * t1.at + t1.count ≤ most_header_bits
headed_small S tables samples n f h p =
    let s = header_bits_most S tables (legal_settings S f.legal) (limited_facts S.image f.small).few_bands in
    let a = h.size in
    let b = p.size in
    omega arith

pub bodied_small : (S : Settings) (tables samples : List ℤ) (n : ℕ) {t1 t2 : Tail} {o1 o2 : List ℕ} → Fine S tables samples n
    → 8 * t1.at + t1.count ≤ most_header_bits → Put t1 o1 (body S tables samples) t2 o2 → 8 * t2.at + t2.count ≤ most_header_bits + most_body_bits
bodied_small S tables samples n f h p =
    let s = body_most S tables samples f.legal f.small in
    let b = p.size in
    omega arith

pub filled_small : (w : ℕ) {t2 t3 : Tail} {o2 o3 : List ℕ} → 1 ≤ w → w ≤ 8 → 8 * t2.at + t2.count ≤ most_header_bits + most_body_bits
    → Put t2 o2 (zeros (filling (8 * w) (8 * t2.at + t2.count))) t3 o3 → 8 * t3.at + t3.count ≤ most_header_bits + most_body_bits + 64
filled_small w {t2} a b h p =
    let l = filling_lt (8 * w) (8 * t2.at + t2.count) (omega arith) in
    let z = length-replicate (filling (8 * w) (8 * t2.at + t2.count)) false in
    let s = p.size in
    omega arith
