-- The fixed fields of the three parts both ways: the settings that the numbers of the fields written name are the settings in use, and what is written does not depend on the others.
use Rattle.std.specs.Prelude.{◌≡◌, refl, Bool, true, false, not, cond, ◌||◌, List, ◌++◌, ℕ, zero, suc, ◌+◌, ◌-◌, ◌%◌, ◌^◌, ◌≤◌, ◌<◌, leb, eqb, ltb, ℤ, pos, negsuc, nat_abs, ◌+ℤ◌, ◌-ℤ◌, ◌≤ℤ◌, length}
use Rattle.std.proofs.Common.{sym, ap, ◌∙◌, mod-eq_of_lt, arith, ltb-true, ltb-false, le-ltb, eq-eqb, ne_eqb, leb→le, le→leb}
use Rattle.std.proofs.Math.Nat.{mod_self}
use Rattle.std.proofs.Math.Decide.{dec_le}
use Rattle.std.proofs.Math.IntN.{+ℤ-neg_ℤ_cancel}
use Rattle.std.proofs.Math.Pow.{pow-lt}
use Rattle.settings.specs.declared.Image.{Image}
use Rattle.settings.specs.declared.Predictor.{Predictor}
use Rattle.settings.specs.declared.Coder.{Coder}
use Rattle.settings.specs.Legal.{between, image_legal, predictor_legal, coder_legal, limited, sample_count}
use Rattle.settings.specs.LegalLaws.{LegalImage, LegalPredictor, LegalCoder, Power}
use Rattle.header.specs.Fields.{fields, split, flag}
use Rattle.header.specs.Places.{◌‼◌, encoding_order, interleaving_depth, coder_type, weight_method, weight_precision, accumulator_constant}
use Rattle.header.specs.Parts.{image_fields, image_widths, image_of, predictor_fields, predictor_widths, predictor_of, coder_fields, coder_widths, coder_of, exponent_of, unwrapped, is_one, no_constant, used_image, used_predictor, used_coder, image_bits, predictor_bits, coder_bits}
use Rattle.header.specs.FieldLaws.{widths, values, total, split_fields, length_fields}

-- ---- lengths

pub length_image : (I : Image) (c : ℕ) → length (fields (image_fields I c)) ≡ image_bits
unfolding image_fields widths total
length_image I c = length_fields (image_fields I c)

pub length_predictor : (P : Predictor) → length (fields (predictor_fields P)) ≡ predictor_bits
unfolding predictor_fields widths total
length_predictor P = length_fields (predictor_fields P)

pub length_coder : (C : Coder) → length (fields (coder_fields C)) ≡ coder_bits
unfolding coder_fields widths total
length_coder C = length_fields (coder_fields C)

-- ---- a value back from what its field holds of it

-- from 1 up to 2^w, the last as 0
unwrapped_value : (w v : ℕ) → 0 < v → v ≤ 2 ^ w → unwrapped (2 ^ w) (v % 2 ^ w) ≡ v
unwrapped_value w v h k = go (ltb v (2 ^ w)) refl
  where
    go : (t : Bool) → ltb v (2 ^ w) ≡ t → unwrapped (2 ^ w) (v % 2 ^ w) ≡ v
    go true t = rw (mod-eq_of_lt (ltb-true _ _ t), ne_eqb v 0 (omega arith))
    go false t = let e : v ≡ 2 ^ w = omega (arith, ltb-false v (2 ^ w) t) in rw (e, mod_self)

flag_value : (b : Bool) → is_one (flag b % 2 ^ 1) ≡ b
flag_value true = refl
flag_value false = refl

small_value : (w v : ℕ) → v < 2 ^ w → v % 2 ^ w ≡ v
small_value w v h = mod-eq_of_lt h

-- less 4
lowered_value : (w v : ℕ) → 4 ≤ v → v - 4 < 2 ^ w → (v - 4) % 2 ^ w + 4 ≡ v
lowered_value w v h k = rw (mod-eq_of_lt k) (omega arith)

-- plus 6
pub raised : (v : ℤ) → negsuc 5 ≤ℤ v → v ≤ℤ pos 9 → (pos (nat_abs (v +ℤ pos 6)) ≡ v +ℤ pos 6) × (nat_abs (v +ℤ pos 6) < 2 ^ 4)
raised (pos n) h k = (refl, omega (arith, leb→le n 9 k.le))
raised (negsuc n) h k =
    let m : n ≤ 5 = leb→le n 5 h.le in
    rw (le-ltb 6 (suc n) (omega arith)) (refl, omega arith)

raised_value : (v : ℤ) → negsuc 5 ≤ℤ v → v ≤ℤ pos 9 → pos (nat_abs (v +ℤ pos 6) % 2 ^ 4) -ℤ pos 6 ≡ v
raised_value v h k =
    let r = raised v h k in
    ap (λ (n : ℕ). pos n -ℤ pos 6) (mod-eq_of_lt r.1) ∙ ap (λ (z : ℤ). z -ℤ pos 6) r.0 ∙ +ℤ-neg_ℤ_cancel v (pos 6)

pub ≤ℤ-trans : (a b c : ℤ) → a ≤ℤ b → b ≤ℤ c → a ≤ℤ c
≤ℤ-trans (pos a) (pos b) (pos c) h k = record { le = le→leb a c (omega (arith, leb→le a b h.le, leb→le b c k.le)) }
≤ℤ-trans (pos a) (pos b) (negsuc c) h k = absurd k.le
≤ℤ-trans (pos a) (negsuc b) c h k = absurd h.le
≤ℤ-trans (negsuc a) b (pos c) h k = record { le = tt }
≤ℤ-trans (negsuc a) (pos b) (negsuc c) h k = absurd k.le
≤ℤ-trans (negsuc a) (negsuc b) (negsuc c) h k = record { le = le→leb c a (omega (arith, leb→le b a h.le, leb→le c b k.le)) }

pub exponent_power : (n e : ℕ) → e ≤ n → exponent_of n (2 ^ e) ≡ e
unfolding exponent_of
exponent_power zero e h = omega arith
exponent_power (suc n) e h = go (dec_le e n) (exponent_power n e)
  where
    go : Dec (e ≤ n) → (e ≤ n → exponent_of n (2 ^ e) ≡ e) → cond (eqb (2 ^ e) (2 ^ suc n)) (suc n) (exponent_of n (2 ^ e)) ≡ e
    go (yes k) before =
        let l : 2 ^ e < 2 ^ suc n = pow-lt {i = e} {j = suc n} (omega arith) in
        rw (ne_eqb (2 ^ e) (2 ^ suc n) (λ q. omega arith)) (before k)
    go (no k) before = let q : e ≡ suc n = omega arith in rw (q, eq-eqb (2 ^ suc n) (2 ^ suc n) refl)

power_value : (x : ℕ) → Power x → 2 ^ ((exponent_of 11 x - 4) % 2 ^ 4 + 4) ≡ x
power_value x p =
    let e : exponent_of 11 x ≡ p.exponent = ap (exponent_of 11) p.is ∙ exponent_power 11 p.exponent p.most in
    let k : p.exponent - 4 < 2 ^ 4 = omega (arith, p.most) in
    ap (λ (n : ℕ). 2 ^ ((n - 4) % 2 ^ 4 + 4)) e ∙ ap (λ (n : ℕ). 2 ^ n) (lowered_value 4 p.exponent p.least k) ∙ sym p.is

-- a value that is there in one case only
flagged_value : (b : Bool) (w v : ℕ) → (b ≡ true → v < 2 ^ w) → cond (is_one (flag b % 2 ^ 1)) (cond b v 0 % 2 ^ w) 0 ≡ cond b v 0
flagged_value true w v h = small_value w v (h refl)
flagged_value false w v h = refl

-- all ones in place of K, which is below them
missing_value : (b : Bool) (v : ℕ) → (b ≡ false → v < 15) → no_constant (cond b 15 v % 2 ^ 4) ≡ b
missing_value true v h = refl
missing_value false v h = let k = h refl in rw (small_value 4 v (omega arith), ne_eqb v 15 (λ e. omega arith))

constant_value : (b : Bool) (v : ℕ) → (b ≡ false → v < 15) → cond (no_constant (cond b 15 v % 2 ^ 4)) 0 (cond b 15 v % 2 ^ 4) ≡ cond b 0 v
constant_value true v h = refl
constant_value false v h = let k = h refl in rw (small_value 4 v (omega arith), ne_eqb v 15 (λ e. omega arith))

unflagged_wrapped : (b : Bool) (w v : ℕ) → (b ≡ false → (0 < v) × (v ≤ 2 ^ w)) → cond (is_one (flag b % 2 ^ 1)) 0 (unwrapped (2 ^ w) (cond b 0 v % 2 ^ w)) ≡ cond b 0 v
unflagged_wrapped true w v h = refl
unflagged_wrapped false w v h = let k = h refl in unwrapped_value w v k.0 k.1

-- ---- the settings back from the numbers of the fields

image_values : (I : Image) (c : ℕ) → LegalImage I → image_of (values (image_fields I c)) ≡ used_image I
unfolding image_of image_fields values used_image
image_values I c l = λ i. record {
  user = small_value 8 I.user (omega (arith, l.user_most)) i;
  nx = unwrapped_value 16 I.nx l.nx_least l.nx_most i;
  ny = unwrapped_value 16 I.ny l.ny_least l.ny_most i;
  nz = unwrapped_value 16 I.nz l.nz_least l.nz_most i;
  signed = flag_value I.signed i;
  depth = unwrapped_value 4 I.depth (omega (arith, l.depth_least)) l.depth_most i;
  sequential = flag_value I.sequential i;
  interleave = unflagged_wrapped I.sequential 16 I.interleave (λ e. ((l.interleaved e).0, omega (arith, (l.interleaved e).1, l.nz_most))) i;
  word = unwrapped_value 3 I.word l.word_least l.word_most i;
}

coder_type_value : (I : Image) (c : ℕ) → c < 2 → values (image_fields I c) ‼ coder_type ≡ c
unfolding image_fields values
coder_type_value I c h = small_value 1 c h

predictor_values : (I : Image) (P : Predictor) → LegalPredictor I P → predictor_of (values (predictor_fields P)) ≡ used_predictor P
unfolding predictor_of predictor_fields values used_predictor
predictor_values I P l = λ i. record {
  bands = small_value 4 P.bands (omega (arith, l.bands_most)) i;
  reduced = flag_value P.reduced i;
  column = flag_value P.column i;
  register = unwrapped_value 6 P.register (omega (arith, l.register_least)) l.register_most i;
  resolution = lowered_value 4 P.resolution l.resolution_least (omega (arith, l.resolution_most)) i;
  interval = power_value P.interval l.interval_power i;
  vmin = raised_value P.vmin l.vmin_least (≤ℤ-trans P.vmin P.vmax (pos 9) l.vmin_vmax l.vmax_most) i;
  vmax = raised_value P.vmax (≤ℤ-trans (negsuc 5) P.vmin P.vmax l.vmin_least l.vmin_vmax) l.vmax_most i;
  custom = flag_value P.custom i;
  precision = flagged_value P.custom 5 P.precision (λ e. omega (arith, (l.precise e).1, l.resolution_most)) i;
  weights_in_file = flag_value P.weights_in_file i;
}

coder_values : (I : Image) (C : Coder) → LegalImage I → LegalCoder I C → coder_of (values (coder_fields C)) ≡ used_coder C
unfolding coder_of coder_fields values used_coder
coder_values I C d l = let few : C.tabled ≡ false → C.constant < 15 = λ e. omega (arith, l.constant_most e, d.depth_most) in λ i. record {
  unary = unwrapped_value 5 C.unary (omega (arith, l.unary_least)) l.unary_most i;
  rescaling = lowered_value 3 C.rescaling l.rescaling_least (omega (arith, l.rescaling_most)) i;
  initial = unwrapped_value 3 C.initial l.initial_least l.initial_most i;
  tabled = missing_value C.tabled C.constant few i;
  constant = constant_value C.tabled C.constant few i;
  k_in_file = flag_value C.k_in_file i;
}

-- and so from the bits, whatever follows
pub image_back : (I : Image) (c : ℕ) (r : List Bool) → LegalImage I → image_of (split image_widths (fields (image_fields I c) ++ r)) ≡ used_image I
unfolding image_fields widths
image_back I c r l = ap image_of (split_fields (image_fields I c) r) ∙ image_values I c l

pub coder_type_back : (I : Image) (c : ℕ) (r : List Bool) → c < 2 → split image_widths (fields (image_fields I c) ++ r) ‼ coder_type ≡ c
unfolding image_fields widths
coder_type_back I c r h = ap (λ (v : List ℕ). v ‼ coder_type) (split_fields (image_fields I c) r) ∙ coder_type_value I c h

pub predictor_back : (I : Image) (P : Predictor) (r : List Bool) → LegalPredictor I P → predictor_of (split predictor_widths (fields (predictor_fields P) ++ r)) ≡ used_predictor P
unfolding predictor_fields widths
predictor_back I P r l = ap predictor_of (split_fields (predictor_fields P) r) ∙ predictor_values I P l

pub coder_back : (I : Image) (C : Coder) (r : List Bool) → LegalImage I → LegalCoder I C → coder_of (split coder_widths (fields (coder_fields C) ++ r)) ≡ used_coder C
unfolding coder_fields widths
coder_back I C r d l = ap coder_of (split_fields (coder_fields C) r) ∙ coder_values I C d l

-- ---- settings that are none are not written, and no test looks at them

module _ {A : Type 0} where
  cond_then : (b : Bool) (x y z : A) → cond b (cond b x y) z ≡ cond b x z
  cond_then true x y z = refl
  cond_then false x y z = refl

  cond_else : (b : Bool) (x y z : A) → cond b x (cond b y z) ≡ cond b x z
  cond_else true x y z = refl
  cond_else false x y z = refl

or_unused : (b : Bool) (f : ℕ → Bool) (u v : ℕ) → (b || f (cond b u v)) ≡ (b || f v)
or_unused true f u v = refl
or_unused false f u v = refl

pub not_or_unused : (b : Bool) (f : ℕ → Bool) (u v : ℕ) → (not b || f (cond b u v)) ≡ (not b || f u)
not_or_unused true f u v = refl
not_or_unused false f u v = refl

pub image_written : (I : Image) (c : ℕ) → image_fields (used_image I) c ≡ image_fields I c
unfolding image_fields used_image
image_written I c = rw (cond_else I.sequential 0 0 I.interleave)

pub predictor_written : (P : Predictor) → predictor_fields (used_predictor P) ≡ predictor_fields P
unfolding predictor_fields used_predictor
predictor_written P = rw (cond_then P.custom P.precision 0 0)

pub coder_written : (C : Coder) → coder_fields (used_coder C) ≡ coder_fields C
unfolding coder_fields used_coder
coder_written C = rw (cond_else C.tabled 15 0 C.constant)

pub image_legal_used : (I : Image) → image_legal (used_image I) ≡ image_legal I
unfolding image_legal used_image
image_legal_used I = rw (or_unused I.sequential (between 1 I.nz) 0 I.interleave)

pub limited_used : (I : Image) → limited (used_image I) ≡ limited I
unfolding limited sample_count used_image
limited_used I = refl

pub predictor_legal_used : (I : Image) (P : Predictor) → predictor_legal (used_image I) (used_predictor P) ≡ predictor_legal I P
unfolding predictor_legal used_image used_predictor
predictor_legal_used I P = rw (not_or_unused P.custom (between 3 (P.resolution + 3)) P.precision 0)

pub coder_legal_used : (I : Image) (C : Coder) → coder_legal (used_image I) (used_coder C) ≡ coder_legal I C
unfolding coder_legal used_image used_coder
coder_legal_used I C = rw (or_unused C.tabled (λ k. leb (k + 2) I.depth) 0 C.constant)

-- ---- what numbers name holds no setting that is none

pub image_named : (v : List ℕ) → used_image (image_of v) ≡ image_of v
unfolding used_image image_of
image_named v = rw (cond_else (is_one (v ‼ encoding_order)) 0 0 (unwrapped (2 ^ 16) (v ‼ interleaving_depth)))

pub predictor_named : (v : List ℕ) → used_predictor (predictor_of v) ≡ predictor_of v
unfolding used_predictor predictor_of
predictor_named v = rw (cond_then (is_one (v ‼ weight_method)) (v ‼ weight_precision) 0 0)

pub coder_named : (v : List ℕ) → used_coder (coder_of v) ≡ coder_of v
unfolding used_coder coder_of
coder_named v = rw (cond_else (no_constant (v ‼ accumulator_constant)) 0 0 (v ‼ accumulator_constant))
