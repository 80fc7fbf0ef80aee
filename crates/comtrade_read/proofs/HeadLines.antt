-- The lines of a configuration file that is written, one list after the other.
use Rattle.std.proofs.Common.{◌≡◌, ℕ, List, [], ◌∷◌, ◌++◌, length, map, ap, append_assoc}
use Rattle.std.specs.List.{flat_map}
use Rattle.std.specs.Fmt.{decimal}
use Rattle.comtrade_values.specs.Written.{decimal_text}
use Rattle.comtrade_format.specs.Parts.{HeadParts}
use Rattle.comtrade_format.specs.Lines.{line}
use Rattle.comtrade_format.specs.Numbered.{numbered}
use Rattle.comtrade_values.specs.Dates.{instant_fields}
use Rattle.comtrade_format.specs.Cfg.{kind_text, names_fields, counts_fields, analog_fields, status_fields, rate_fields, channel_lines, rate_lines, last_lines, head_lines, cfg}

abbrev pub ends : HeadParts → List (List (List ℕ))
ends h =
    instant_fields h.first ∷ instant_fields h.trigger ∷ (kind_text h.kind ∷ []) ∷ (decimal_text h.timemult ∷ []) ∷ []

abbrev pub tail : HeadParts → List (List (List ℕ))
tail h = (decimal_text h.line_freq ∷ []) ∷ (decimal h.nrates ∷ []) ∷ (map rate_fields h.rates ++ ends h)

abbrev pub all_lines : HeadParts → List (List (List ℕ))
all_lines h =
    names_fields h.station h.device ∷ counts_fields (length h.analog) (length h.status)
    ∷ (numbered analog_fields 1 h.analog ++ (numbered status_fields 1 h.status ++ tail h))

pub cfg_lines : (h : HeadParts) → cfg h ≡ flat_map line (all_lines h)
unfolding cfg head_lines channel_lines rate_lines last_lines
cfg_lines h =
    let front = λ (ls : List (List (List ℕ))). flat_map line (names_fields h.station h.device ∷ counts_fields (length h.analog) (length h.status) ∷ ls) in
    ap front (append_assoc (numbered analog_fields 1 h.analog) (numbered status_fields 1 h.status) (tail h))
