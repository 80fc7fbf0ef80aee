use Rattle.std.proofs.Common.{◌≡◌, ℕ, Bool, true, false, List, ap, sym, ◌∙◌}
use Rattle.std.specs.Prelude.{◌&&◌, not, slice_get}
use Rattle.std.specs.Str.{chars, is_utf8}
use Rattle.std.proofs.lemmas.Str.{IsUtf8-from_is_utf8, is_utf8-from_IsUtf8}
use Rattle.std.proofs.lemmas.Bool.{false_from_ne_true}
use Rattle.comtrade_io.specs.Safe.{is_seen}
use Rattle.comtrade_io.proofs.seen.begins_seen.Goals as goal

pub returns-in_default : goal.returns-in_default
returns-in_default c =
    let bytes = c.args.bytes.now in
    let no = false_from_ne_true (is_utf8 bytes) (λ yes. c.in_default.ensures.cases.0 (IsUtf8-from_is_utf8 bytes yes)) in
    sym (ap (λ t. t && is_seen (slice_get (chars bytes) 0)) no)

pub returns-in-Some : goal.returns-in-Some
returns-in-Some c =
    let bytes = c.args.bytes.now in
    let yes = is_utf8-from_IsUtf8 bytes c.in-Ok.ensures.cases.1 in
    let rest = c.chars.ensures.rest ∙ c.in-Ok.ensures.cases.0 in
    let first = c.in-Some.ensures.steps.2 ∙ ap (λ t. slice_get (chars t) 0) rest in
    ap not c.is_hidden.ensures ∙ ap is_seen first ∙ sym (ap (λ t. t && is_seen (slice_get (chars bytes) 0)) yes)
