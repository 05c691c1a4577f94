-- How long a file can be: a sample takes at most 48 bits, a band's tables at most 50 bytes, and the rest less than 32 bytes.
use Rattle.std.specs.Prelude.{◌≡◌, true, List, [], ◌∷◌, ◌++◌, suc, ◌+◌, ◌*◌, ◌≤◌, ℤ, length}
use Rattle.std.proofs.Common.{mul-suc, mul-le-mul_right, arith, length-append}
use Rattle.bitstream.proofs.Laws.{filled_lt, length_pack}
use Rattle.settings.specs.declared.Settings.{Settings}
use Rattle.settings.specs.Legal.{settings_legal, limited, sample_count}
use Rattle.settings.specs.Limits.{most_samples, most_body_bits, most_file_bytes}
use Rattle.settings.specs.LegalLaws.{LegalSettings, legal_settings, limited_facts}
use Rattle.predictor.specs.Differences.{Image, image_of}
use Rattle.predictor.specs.Band.{mapped_at}
use Rattle.coder.specs.Encoding.{encode_at}
use Rattle.coder.specs.EncodingLaws.{length_encode}
use Rattle.header.specs.Write.{header}
use Rattle.header.specs.SizeLaws.{header_at_most}
use Rattle.body.specs.Order.{Place, order}
use Rattle.body.specs.OrderLaws.{length_order}
use Rattle.body.specs.Body.{code, codes, body}
use Rattle.cube.specs.File.{file_bits, file}

length_code : (S : Settings) (tables : List ℤ) (I : Image) (p : Place) → length (code S tables I p) ≤ S.coder.unary + S.image.depth
unfolding code encode_at
length_code S tables I p = length_encode S _ p.t (mapped_at S tables I p.z p.t)

length_codes : (S : Settings) (tables : List ℤ) (I : Image) (ps : List Place) → length (codes S tables I ps) ≤ (S.coder.unary + S.image.depth) * length ps
unfolding codes
length_codes S tables I [] = omega arith
length_codes S tables I (p ∷ ps) =
    let h = length_codes S tables I ps in
    let k = length_code S tables I p in
    let m : (S.coder.unary + S.image.depth) * suc (length ps) ≡ (S.coder.unary + S.image.depth) * length ps + (S.coder.unary + S.image.depth) = mul-suc (S.coder.unary + S.image.depth) (length ps) in
    rw (length-append (code S tables I p) (codes S tables I ps)) (omega arith)

-- no body is longer than 48 bits a sample, Umax and the depth
pub body_at_most : (S : Settings) (tables samples : List ℤ) → LegalSettings S → length (body S tables samples) ≤ 48 * sample_count S.image
unfolding body sample_count
body_at_most S tables samples legal =
    let n : length (order S.image) ≡ S.image.nx * S.image.ny * S.image.nz = length_order S.image (λ q. (legal.image.interleaved q).0) in
    let k : S.coder.unary + S.image.depth ≤ 48 = let a = legal.coder.unary_most in let b = legal.image.depth_most in omega arith in
    let m : (S.coder.unary + S.image.depth) * length (order S.image) ≤ 48 * length (order S.image) = mul-le-mul_right (length (order S.image)) k in
    let c = length_codes S tables (image_of S.image samples) (order S.image) in
    omega arith

-- no file of legal settings is longer than 32 + 50·Nz + 6·Nx·Ny·Nz bytes
pub file_at_most : (S : Settings) (tables samples : List ℤ) → settings_legal S ≡ true → length (file S tables samples) ≤ 32 + 50 * S.image.nz + 6 * sample_count S.image
unfolding file file_bits
file_at_most S tables samples e =
    let legal = legal_settings S e in
    let m = body_at_most S tables samples legal in
    let s = header_at_most S tables legal in
    let b = length-append (header S tables) (body S tables samples) in
    let w = legal.image.word_most in
    let f = filled_lt (8 * S.image.word) (header S tables ++ body S tables samples) (let a = legal.image.word_least in omega arith) in
    rw length_pack (omega arith)

-- ---- within the house limits

pub samples_few : (S : Settings) → limited S.image ≡ true → sample_count S.image ≤ most_samples
unfolding sample_count
samples_few S h = (limited_facts S.image h).few_samples

pub body_most : (S : Settings) (tables samples : List ℤ) → settings_legal S ≡ true → limited S.image ≡ true → length (body S tables samples) ≤ most_body_bits
body_most S tables samples e h = omega (arith, body_at_most S tables samples (legal_settings S e), samples_few S h)

-- the same, by the places in their order
pub codes_most : (S : Settings) (tables samples : List ℤ) → settings_legal S ≡ true → limited S.image ≡ true
    → length (codes S tables (image_of S.image samples) (order S.image)) ≤ most_body_bits
unfolding body
codes_most S tables samples e h = body_most S tables samples e h

pub file_most : (S : Settings) (tables samples : List ℤ) → settings_legal S ≡ true → limited S.image ≡ true → length (file S tables samples) ≤ most_file_bytes
file_most S tables samples e h = omega (arith, file_at_most S tables samples e, samples_few S h, (limited_facts S.image h).few_bands)
