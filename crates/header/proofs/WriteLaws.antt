-- The values that legal settings and tables give to the header's fields, and the parts put together.
use mathlib.Core.Path.{◌≡◌, refl, sym, ap, ◌∙◌}
use mathlib.Core.Bool.{Bool, true, false, ◌&&◌, and-eq-true_iff}
use mathlib.Core.List.{List, [], ◌++◌}
use Prim.Native.Nat.{ℕ, ◌+◌, ◌-◌, ◌*◌, ◌^◌, ◌≤◌, ◌<◌}
use native.Mathlib.Nat.{mul-le-mul, pow-suc}
use native.Mathlib.Numerals.{add-one}
use native.Mathlib.Omega.{arith}
use native.Mathlib.Decide.{dec_le}
use lib.Pow.{pow_mono, pow_pos}
use lib.IntN.{ℤ, pos, negsuc}
use lib.Dec.{leb→le}
use lib.Signed.{◌≤ℤ◌}
use mir.Syntax.{w32}
use mir.Val.{SFits, to_z, of_z, bool_byte}
use mir.Facts.{to_z-of_z}
use lib.ListN.{length, take, drop, get_or}
use Rattle.std.proofs.lemmas.List.{length-take, length-take-le, length-drop, get_or-take, get_or-drop}
use Rattle.bitstream.specs.Stream.{bits, zeros, filling, filled}
use Rattle.bitstream.proofs.Laws.{length_bits}
use Rattle.bitstream.specs.Writer.{Put}
use Rattle.bitstream.specs.declared.write.Tail.{Tail}
use Rattle.bitstream.proofs.Writes.{put_then, put_as}
use Rattle.settings.specs.declared.Image.{Image}
use Rattle.settings.specs.declared.Predictor.{Predictor}
use Rattle.settings.specs.declared.Settings.{Settings}
use Rattle.settings.specs.Lists.{join}
use Rattle.settings.specs.ListLaws.{length_join_same}
use Rattle.settings.specs.Legal.{settings_legal, image_legal, predictor_legal, coder_legal}
use Rattle.settings.specs.Limits.{most_bands}
use Rattle.settings.specs.LegalLaws.{LegalSettings, LegalPredictor, Power, legal_settings, limited_facts}
use Rattle.settings.specs.Tables.{table_stride, parameter_slot, entry, component_count, weight_legal, accumulator_legal}
use Rattle.settings.specs.TableLaws.{components_fit, legal_tables, weight_legal_lem, accumulator_legal_lem}
use Rattle.header.proofs.Signs.{weight_fits}
use Rattle.header.specs.Fields.{flag}
use Rattle.header.specs.Parts.{exponent_of}
use Rattle.header.specs.PartLaws.{exponent_power, ≤ℤ-trans}
use Rattle.header.specs.Tables.{twos, weight_table, accumulator_table}
use Rattle.header.specs.Write.{weight_part, accumulator_part}
use Rattle.header.specs.Writing.{Writable}
use Rattle.header.specs.SizeLaws.{cond_true}

-- what can be written is legal, part by part
pub record Facts (S : Settings) : Type 0 where
  pub all : LegalSettings S
  pub predictor : predictor_legal S.image S.predictor ≡ true
  pub coder : coder_legal S.image S.coder ≡ true
  pub bands : S.image.nz ≤ most_bands

legal_parts : (S : Settings) → settings_legal S ≡ true → (predictor_legal S.image S.predictor ≡ true) × (coder_legal S.image S.coder ≡ true)
unfolding settings_legal
legal_parts S e =
    let k = (and-eq-true_iff (image_legal S.image && predictor_legal S.image S.predictor) (coder_legal S.image S.coder)).0 e in
    (((and-eq-true_iff (image_legal S.image) (predictor_legal S.image S.predictor)).0 k.0).1, k.1)

pub facts : (S : Settings) (tables : List ℤ) → Writable S tables → Facts S
facts S tables w =
    let k = legal_parts S w.legal in
    record { all = legal_settings S w.legal; predictor = k.0; coder = k.1; bands = (limited_facts S.image w.small).few_bands }

-- the table values in use
module _ (S : Settings) (tables : List ℤ) (w : Writable S tables) (z : ℕ) (h : z < S.image.nz) where
  pub weight_at : (i : ℕ) → S.predictor.custom ≡ true → i < component_count S.predictor z → weight_legal S.predictor.precision (entry tables z i) ≡ true
  weight_at i c k = let l = (legal_tables S tables w.entries z h).weights c i k in weight_legal_lem S.predictor.precision (entry tables z i) l.least l.most

  pub accumulator_at : S.coder.tabled ≡ true → accumulator_legal S.image.depth (entry tables z parameter_slot) ≡ true
  accumulator_at c = accumulator_legal_lem S.image.depth (entry tables z parameter_slot) ((legal_tables S tables w.entries z h).accumulator c)

pub record Narrow (S : Settings) (z : ℕ) : Type 0 where
  pub least : 1 ≤ S.predictor.precision
  pub most : S.predictor.precision ≤ 22
  pub few : component_count S.predictor z ≤ 18

pub narrow : (S : Settings) (z : ℕ) → Facts S → S.predictor.custom ≡ true → Narrow S z
narrow S z f c =
    let p = f.all.predictor in
    record { least = omega (arith, (p.precise c).0); most = omega (arith, (p.precise c).1, p.resolution_most); few = components_fit S.predictor z p.bands_most }

-- the weights of a band
abbrev pub weight_bits_at : ℕ → List ℤ → ℕ → ℕ → List Bool
weight_bits_at q tables z i = bits q (twos q (entry tables z i))

pub band_most : (q n : ℕ) (tables : List ℤ) (z : ℕ) → q ≤ 22 → n ≤ 18 → length (join (weight_bits_at q tables z) 0 n) ≤ 22 * 18
band_most q n tables z h k =
    let e : length (join (weight_bits_at q tables z) 0 n) ≡ q * n = length_join_same (weight_bits_at q tables z) n q (λ i. length_bits q _) in
    let m : q * n ≤ 22 * 18 = mul-le-mul h k in
    omega arith

-- weight i of a band is item i of the part of the area that the band's weights fill
abbrev pub band_part : List ℤ → ℕ → ℕ → List ℤ
band_part tables z n = take (table_stride * z + n - table_stride * z) (drop (table_stride * z) tables)

pub length_band_part : (tables : List ℤ) (z n : ℕ) → table_stride * z + n ≤ length tables → length (band_part tables z n) ≡ n
length_band_part tables z n h =
    let e : table_stride * z + n - table_stride * z ≡ n = omega arith in
    rw e (length-take-le n (drop (table_stride * z) tables) (rw length-drop (omega arith)))

pub record WeightTaken (S : Settings) (tables : List ℤ) (z n i : ℕ) : Type 0 where
  pub room : i < n
  pub legal : weight_legal S.predictor.precision (entry tables z i) ≡ true
  pub is : to_z w32 (of_z w32 (get_or (band_part tables z n) i (pos 0))) ≡ entry tables z i

pub weight_taken : (S : Settings) (tables : List ℤ) (z n i : ℕ) → Writable S tables → S.predictor.custom ≡ true → z < S.image.nz → n ≡ component_count S.predictor z → i < length (band_part tables z n) → WeightTaken S tables z n i
unfolding entry
weight_taken S tables z n i w c h e k =
    let m : i < n = omega (arith, length-take (table_stride * z + n - table_stride * z) (drop (table_stride * z) tables)) in
    let l = weight_at S tables w z h i c (omega (arith, e)) in
    let there : get_or (band_part tables z n) i (pos 0) ≡ get_or tables (table_stride * z + i) (pos 0) =
    get_or-take _ (drop (table_stride * z) tables) i (pos 0) (omega arith) ∙ get_or-drop (table_stride * z) tables i (pos 0) in
    record { room = m; legal = l; is = rw there (to_z-of_z (weight_fits S.predictor.precision _ (narrow S z (facts S tables w) c).most l)) }

-- ---- a table and its fill

pub put_filled : {t t' t'' : Tail} {o o' o'' : List ℕ} (table : List Bool) (n : ℕ) → length table ≡ n → Put t o table t' o' → Put t' o' (zeros (filling 8 n)) t'' o'' → Put t o (filled 8 table) t'' o''
unfolding filled
put_filled table n e p r = put_as (ap (λ (k : ℕ). table ++ zeros (filling 8 k)) (sym e)) (put_then p r)

-- the parts where there is a table, and where there is none
pub weight_part_is : (S : Settings) (tables : List ℤ) → S.predictor.custom ≡ true → filled 8 (weight_table S.predictor S.image.nz tables) ≡ weight_part S tables
unfolding weight_part
weight_part_is S tables e = sym (cond_true S.predictor.custom _ _ e)

pub no_weight_part : (S : Settings) (tables : List ℤ) → S.predictor.custom ≡ false → [] ≡ weight_part S tables
unfolding weight_part
no_weight_part S tables e = rw e

pub accumulator_part_is : (S : Settings) (tables : List ℤ) → S.coder.tabled ≡ true → filled 8 (accumulator_table S.image.nz tables) ≡ accumulator_part S tables
unfolding accumulator_part
accumulator_part_is S tables e = sym (cond_true S.coder.tabled _ _ e)

pub no_accumulator_part : (S : Settings) (tables : List ℤ) → S.coder.tabled ≡ false → [] ≡ accumulator_part S tables
unfolding accumulator_part
no_accumulator_part S tables e = rw e

-- ---- the predictor's numbers

-- what a flag converts to is its field
pub from_flag : (b : Bool) → bool_byte b ≡ flag b
from_flag true = refl
from_flag false = refl

-- the exponent of a power of two, which stands between two powers
pub record Log (x r : ℕ) : Type 0 where
  pub is : r ≡ exponent_of 11 x
  pub least : 4 ≤ r

between : (r e : ℕ) → 2 ^ r ≤ 2 ^ e → 2 ^ e < 2 ^ (r + 1) → Dec (r ≤ e) → Dec (e ≤ r) → r ≡ e
between r e low high (no k) d = let t : 2 ^ (e + 1) ≡ 2 ^ e * 2 = rw add-one (pow-suc 2 e) in let m : 2 ^ (e + 1) ≤ 2 ^ r = pow_mono {i = e + 1} {j = r} (omega arith) in let p = pow_pos e in absurd (omega arith)
between r e low high (yes k) (no l) = let m : 2 ^ (r + 1) ≤ 2 ^ e = pow_mono {i = r + 1} {j = e} (omega arith) in absurd (omega arith)
between r e low high (yes k) (yes l) = omega arith

pub power_some : (x : ℕ) → Power x → 0 < x
power_some x p = rw p.is (pow_pos p.exponent)

pub power_log : (x r : ℕ) → Power x → 2 ^ r ≤ x → x < 2 * 2 ^ r → Log x r
power_log x r p low high =
    let e : exponent_of 11 x ≡ p.exponent = ap (exponent_of 11) p.is ∙ exponent_power 11 p.exponent p.most in
    let t : 2 ^ (r + 1) ≡ 2 ^ r * 2 = rw add-one (pow-suc 2 r) in
    let k : r ≡ p.exponent = between r p.exponent (omega (arith, p.is)) (omega (arith, p.is)) (dec_le r p.exponent) (dec_le p.exponent r) in
    record { is = k ∙ sym e; least = omega (arith, p.least) }

-- an end of the weight exponent's range
pub record End (v : ℤ) : Type 0 where
  pub least : negsuc 5 ≤ℤ v
  pub most : v ≤ℤ pos 9
  pub fits : SFits w32 v

end_fits : (v : ℤ) → negsuc 5 ≤ℤ v → v ≤ℤ pos 9 → SFits w32 v
end_fits (pos n) h k = record { sfits = omega (arith, leb→le n 9 k.le) }
end_fits (negsuc n) h k = record { sfits = omega (arith, leb→le n 5 h.le) }

pub first_end : (I : Image) (P : Predictor) → LegalPredictor I P → End P.vmin
first_end I P l =
    let m = ≤ℤ-trans P.vmin P.vmax (pos 9) l.vmin_vmax l.vmax_most in
    record { least = l.vmin_least; most = m; fits = end_fits P.vmin l.vmin_least m }

pub last_end : (I : Image) (P : Predictor) → LegalPredictor I P → End P.vmax
last_end I P l =
    let m = ≤ℤ-trans (negsuc 5) P.vmin P.vmax l.vmin_least l.vmin_vmax in
    record { least = m; most = l.vmax_most; fits = end_fits P.vmax m l.vmax_most }
