use Rattle.std.proofs.Common.{◌≡◌, ℕ, List, None, refl, subst, ap, ◌∙◌}
use Rattle.std.specs.Prelude.{Result, Ok, Err, MatchResult}
use Rattle.comtrade_values.specs.Lines.{drop_end, is_blank_line}
use Rattle.dfr_script.specs.declared.fault.ScriptRefusal.{ScriptRefusal}
use Rattle.dfr_script.specs.declared.fault.ScriptRefusal.TheVariants.{Fault, Memory}
use Rattle.dfr_script.specs.Parts.{ScriptParts}
use Rattle.dfr_script.specs.Scripts.{Is, Tells, script, script_fault, script_value}
use Rattle.dfr_script.proofs.script.script_of.Goals as goal

abbrev Reads : Result ScriptParts ScriptRefusal → List (List ℕ) → Type 0
Reads r ls = MatchResult r (λ s. (script_fault ls ≡ None) × (s ≡ script_value ls)) (Tells (script_fault ls))

reads : (r : Result ScriptParts ScriptRefusal) (ls : List (List ℕ)) → Is (λ s. s) (script ls) r → Reads r ls
unfolding script_fault script_value
reads (Ok s) ls h = (rw h refl, rw h refl)
reads (Err (Fault f)) ls h = rw (h f refl) refl
reads (Err Memory) ls h = tt

of_lines : (r : Result ScriptParts ScriptRefusal) (ls ms : List (List ℕ)) → ls ≡ ms → Reads r ls → Reads r ms
of_lines r ls ms e h = subst (Reads r) e h

pub returns : goal.returns
returns g c = of_lines _ _ _ (c.without_blank_end.ensures.lines ∙ ap (drop_end is_blank_line) c.of.ensures.lines) (reads _ _ c.script_in.ensures)
