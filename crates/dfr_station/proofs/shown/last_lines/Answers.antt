use Rattle.std.proofs.lemmas.Int.{to_z-of_z}
use Rattle.std.proofs.Common.{rules, w64, ◌≡◌, ℕ, List, [], ◌∷◌, ◌++◌, sym, ap, ◌∙◌, append_assoc, append-nil}
use Rattle.comtrade_format.specs.Cfg.{kind_text, last_lines as spec_last_lines}
use Rattle.comtrade_format.specs.Lines.{line}
use Rattle.comtrade_values.specs.Dates.{instant_fields}
use Rattle.comtrade_values.specs.Written.{decimal_text}
use Rattle.comtrade_write.specs.OfRecord.{whole}
use Rattle.dfr_station.proofs.shown.last_lines.Goals as goal

four : (a b c d : List ℕ) → ((a ++ b) ++ c) ++ d ≡ a ++ (b ++ (c ++ (d ++ [])))
four a b c d =
    append_assoc (a ++ b) c d ∙ append_assoc a b (c ++ d) ∙ ap (λ (l : List ℕ). a ++ (b ++ (c ++ l))) (sym (append-nil d))

pub returns : goal.returns
unfolding spec_last_lines
returns g c =
    rw (c.in_ok-put_one_line.ensures, c.in_ok-put_kind_line.ensures, c.in_ok-put_instant_line-2.ensures, c.in_ok-put_instant_line.ensures, c.new-text.ensures.items, to_z-of_z w64 c.args.shown.first (search rules), to_z-of_z w64 c.args.shown.trigger (search rules))
    (four (line (instant_fields c.args.shown.first)) (line (instant_fields c.args.shown.trigger)) (line (kind_text c.args.kind ∷ [])) (line (decimal_text (whole 1) ∷ [])))
