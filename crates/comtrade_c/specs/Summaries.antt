-- What is said of a configuration file as a whole.
use Rattle.std.specs.Prelude.{◌≡◌, Bool, true, false, length}
use Rattle.comtrade_format.specs.declared.file.Kind.{Kind}
use Rattle.comtrade_format.specs.declared.file.Kind.TheVariants.{Ascii, Binary}
use Rattle.comtrade_format.specs.Parts.{HeadParts}
use Rattle.comtrade_read.specs.Head.{last_sample}
use Rattle.comtrade_format.specs.Floats.{IsNearest}
use Rattle.comtrade_c.specs.Channels.{text_in}
use Rattle.comtrade_c.specs.declared.summary.Summary.{Summary}

abbrev pub is_binary : Kind → Bool
is_binary Ascii = false
is_binary Binary = true

-- the counts, the instants and the kind; the line frequency and the multiplier of the stamps as the nearest floats
pub record Summarizes (h : HeadParts) (s : Summary) : Type 0 where
  pub rows : s.rows ≡ last_sample h.rates
  pub analog : s.analog ≡ length h.analog
  pub status : s.status ≡ length h.status
  pub rates : s.rates ≡ length h.rates
  pub text : s.text ≡ length (text_in h)
  pub first : s.first ≡ h.first
  pub trigger : s.trigger ≡ h.trigger
  pub line_freq : IsNearest h.line_freq s.line_freq
  pub timemult : IsNearest h.timemult s.timemult
  pub nrates : s.nrates ≡ h.nrates
  pub binary : s.binary ≡ is_binary h.kind
