-- Settings that a reader gives are small enough for slots, and come back from them.
use Rattle.std.specs.Prelude.{◌≡◌, refl, Bool, true, false, cond, ℕ, ◌<◌, ◌^◌}
use Rattle.std.proofs.Common.{sym, ap, ◌∙◌, arith}
use Rattle.settings.specs.declared.Image.{Image}
use Rattle.settings.specs.declared.Predictor.{Predictor}
use Rattle.settings.specs.declared.Coder.{Coder}
use Rattle.settings.specs.declared.Settings.{Settings}
use Rattle.settings.specs.Words.{power_of}
use Rattle.settings.specs.Legal.{settings_legal}
use Rattle.settings.specs.LegalLaws.{LegalImage, LegalPredictor, LegalCoder, legal_settings}
use Rattle.header.specs.Parts.{used_image, used_predictor, used_coder}
use Rattle.header.specs.Write.{used_settings}
use Rattle.settings_slots.specs.Slots.{is_set, image_from, predictor_from, coder_from, settings_from, flag_slot, slots_of}
use Rattle.settings_slots.specs.Storing.{SmallImage, SmallPredictor, SmallCoder, Small}

-- ---- settings that a reader gives are small enough for slots

unless_small : (b : Bool) (n m : ℕ) → cond b 0 n ≡ n → (b ≡ false → n < m) → 0 < m → n < m
unless_small true n m e h p = omega arith
unless_small false n m e h p = h refl

where_small : (b : Bool) (n m : ℕ) → cond b n 0 ≡ n → (b ≡ true → n < m) → 0 < m → n < m
where_small true n m e h p = h refl
where_small false n m e h p = omega arith

image_small : (I : Image) → LegalImage I → cond I.sequential 0 I.interleave ≡ I.interleave → SmallImage I
image_small I l u = record {
  nx_small = omega (arith, l.nx_most);
  ny_small = omega (arith, l.ny_most);
  nz_small = omega (arith, l.nz_most);
  depth_small = omega (arith, l.depth_most);
  interleave_small = unless_small I.sequential I.interleave (2 ^ 31) u (λ q. omega (arith, (l.interleaved q).1, l.nz_most)) (omega arith);
  word_small = omega (arith, l.word_most);
}

predictor_small : (I : Image) (P : Predictor) → LegalPredictor I P → cond P.custom P.precision 0 ≡ P.precision → SmallPredictor P
predictor_small I P l u = record {
  bands_small = omega (arith, l.bands_most);
  register_small = omega (arith, l.register_most);
  resolution_small = omega (arith, l.resolution_most);
  interval_small = (power_of P.interval l.interval_power.exponent l.interval_power.is (let m = l.interval_power.most in omega arith)).small;
  precision_small = where_small P.custom P.precision (2 ^ 31) u (λ q. omega (arith, (l.precise q).1, l.resolution_most)) (omega arith);
}

coder_small : (I : Image) (C : Coder) → LegalImage I → LegalCoder I C → cond C.tabled 0 C.constant ≡ C.constant → SmallCoder C
coder_small I C k l u = record {
  unary_small = omega (arith, l.unary_most);
  rescaling_small = omega (arith, l.rescaling_most);
  initial_small = omega (arith, l.initial_most);
  constant_small = unless_small C.tabled C.constant (2 ^ 31) u (λ q. omega (arith, l.constant_most q, k.depth_most)) (omega arith);
}

pub small : (S : Settings) → settings_legal S ≡ true → used_settings S ≡ S → Small S
unfolding used_settings used_image used_predictor used_coder
small S e u =
    let l = legal_settings S e in
    record {
      image_small = image_small S.image l.image (ap (λ (T : Settings). T.image.interleave) u);
      predictor_small = predictor_small S.image S.predictor l.predictor (ap (λ (T : Settings). T.predictor.precision) u);
      coder_small = coder_small S.image S.coder l.image l.coder (ap (λ (T : Settings). T.coder.constant) u);
    }

-- ---- there and back

flag_back : (b : Bool) → is_set (flag_slot b) ≡ b
flag_back true = refl
flag_back false = refl

-- two flags that stand together are one
together : (a b : Bool) → (a ≡ true → b ≡ true) → (b ≡ true → a ≡ true) → a ≡ b
together true b f g = sym (f refl)
together false true f g = g refl
together false false f g = refl

-- legal settings that name themselves come back from their slots
pub settings_back : (S : Settings) → settings_legal S ≡ true → used_settings S ≡ S → settings_from (slots_of S) ≡ S
unfolding settings_from image_from predictor_from coder_from slots_of used_settings used_image used_predictor used_coder
settings_back S e u =
    let legal = legal_settings S e in
    let I = S.image in
    let P = S.predictor in
    let C = S.coder in
    let m : cond (is_set (flag_slot I.sequential)) 0 I.interleave ≡ I.interleave =
    ap (λ (b : Bool). cond b 0 I.interleave) (flag_back I.sequential) ∙ ap (λ (T : Settings). T.image.interleave) u in
    let q : cond (is_set (flag_slot P.custom)) P.precision 0 ≡ P.precision =
    ap (λ (b : Bool). cond b P.precision 0) (flag_back P.custom) ∙ ap (λ (T : Settings). T.predictor.precision) u in
    let k : cond (is_set (flag_slot C.tabled)) 0 C.constant ≡ C.constant =
    ap (λ (b : Bool). cond b 0 C.constant) (flag_back C.tabled) ∙ ap (λ (T : Settings). T.coder.constant) u in
    λ i. record {
      image = record {
        user = I.user;
        nx = I.nx;
        ny = I.ny;
        nz = I.nz;
        signed = flag_back I.signed i;
        depth = I.depth;
        sequential = flag_back I.sequential i;
        interleave = m i;
        word = I.word;
      };
      predictor = record {
        bands = P.bands;
        reduced = flag_back P.reduced i;
        column = flag_back P.column i;
        register = P.register;
        resolution = P.resolution;
        interval = P.interval;
        vmin = P.vmin;
        vmax = P.vmax;
        custom = flag_back P.custom i;
        precision = q i;
        weights_in_file = (flag_back P.custom ∙ together P.custom P.weights_in_file legal.predictor.weights_there legal.predictor.weights_used) i;
      };
      coder = record {
        unary = C.unary;
        rescaling = C.rescaling;
        initial = C.initial;
        tabled = flag_back C.tabled i;
        constant = k i;
        k_in_file = (flag_back C.tabled ∙ together C.tabled C.k_in_file legal.coder.k_there legal.coder.k_used) i;
      };
    }
