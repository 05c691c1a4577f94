-- The body (5.4): the codes of all values in their order, written and read.
use Rattle.std.specs.Prelude.{Bool, List, [], ◌∷◌, ◌++◌, ℕ, suc, ℤ, set}
use Rattle.bitstream.specs.Stream.{Parsed, ok, short, bad}
use Rattle.refusals.specs.declared.Refusal.TheVariants.{BodyEnds, BadCodeword}
use Rattle.refusals.specs.Reading.{Read, got, refused}
use Rattle.settings.specs.declared.Settings.{Settings}
use Rattle.predictor.specs.Differences as predictor
use Rattle.predictor.specs.Differences.{index_of, image_of}
use Rattle.predictor.specs.Mapping.{unmapped}
use Rattle.predictor.specs.Band.{scaled_at, mapped_at}
use Rattle.coder.specs.Statistics.{statistics_at}
use Rattle.coder.specs.Encoding.{encode_at, decode}
use Rattle.body.specs.Order.{Place, order}

-- the bits of a place
unfoldable pub code : Settings → List ℤ → predictor.Image → Place → List Bool
code S tables I p = encode_at S tables p.z (mapped_at S tables I p.z) p.t

-- the bits of a row of places
unfoldable pub codes : Settings → List ℤ → predictor.Image → List Place → List Bool
codes S tables I [] = []
codes S tables I (p ∷ ps) = code S tables I p ++ codes S tables I ps

-- the body without its fill (5.4)
unfoldable pub body : Settings → List ℤ → List ℤ → List Bool
body S tables samples = codes S tables (image_of S.image samples) (order S.image)

-- ---- and back

-- the mapped value at a place off bits, in an image that is known before it
unfoldable pub mapped_off : Settings → List ℤ → predictor.Image → Place → List Bool → Parsed
mapped_off S tables I p l = decode S p.t (statistics_at S tables p.z (mapped_at S tables I p.z) p.t) l

-- the samples with that of a place set to what the mapped value δ stands for
unfoldable pub restored : Settings → List ℤ → Place → List ℤ → ℕ → List ℤ
restored S tables p samples δ =
    set samples (index_of S.image p.z p.t)
    (unmapped S (scaled_at S tables (image_of S.image samples) p.z p.t) δ)

-- the values at places, the first of rank n, into the samples; inside a codeword 9 comes before 10
unfoldable pub read_body : Settings → List ℤ → ℕ → List Place → List ℤ → List Bool → Read (List ℤ)
read_body S tables n [] samples l = got samples l
read_body S tables n (p ∷ ps) samples l =
    elim (mapped_off S tables (image_of S.image samples) p l) [
      | ok δ r ↦ read_body S tables (suc n) ps (restored S tables p samples δ) r
      | short ↦ refused (BodyEnds n)
      | bad ↦ refused (BadCodeword n)
    ]
