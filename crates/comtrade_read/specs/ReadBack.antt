-- What is written is read.
use Rattle.std.specs.Prelude.{◌≡◌, None}
use Rattle.std.specs.List.{AllByRecursion}
use Rattle.comtrade_values.specs.Spelling.{IsNumber}
use Rattle.dfr_channels.specs.Decimals.{HasDecimals}
use Rattle.comtrade_format.specs.Parts.{HeadParts, FileParts}
use Rattle.comtrade_format.specs.Cfg.{cfg}
use Rattle.comtrade_format.specs.Data.{dat, dat_refusal}
use Rattle.comtrade_format.specs.Refusals.{cfg_refusal}
use Rattle.comtrade_read.specs.Reads.{Reads}

-- each number of a head is one that a Decimal holds, as every value of the type Head has it
pub record HasNumbers (h : HeadParts) : Type 0 where
  pub analog : AllByRecursion HasDecimals h.analog
  pub line_freq : IsNumber h.line_freq
  pub rates : AllByRecursion (λ r. IsNumber r.samp) h.rates
  pub timemult : IsNumber h.timemult

-- a file that no writer refuses is read from its own texts
abbrev pub ReadBackLaw : Type 0
ReadBackLaw = (f : FileParts) → HasNumbers f.head → cfg_refusal f ≡ None → dat_refusal f.head.kind f ≡ None → Reads (cfg f.head) (dat f.head.kind f) f
