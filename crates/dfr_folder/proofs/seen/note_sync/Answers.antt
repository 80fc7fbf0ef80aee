use Rattle.std.proofs.Common.{◌+◌, ◌<◌, take, length, sym, ◌∙◌, ap, arith}
use Rattle.std.specs.Prelude.{List}
use Rattle.std.proofs.lemmas.List.{set-get_or}
use Rattle.dfr_folder.specs.declared.name.Seen.{Seen}
use Rattle.dfr_folder.specs.Events.{same_name, state_of}
use Rattle.dfr_folder.proofs.SeenLemmas.{apart_tests, set_there, set_other, take_none}
use Rattle.dfr_folder.proofs.seen.note_sync.Goals as goal

pub returns-then-is_same-clause-there : goal.returns-then-is_same-clause-there
returns-then-is_same-clause-there c =
    let xs = c.loop-seen.names in
    let less : c.loop-seen.seen-index < length xs = omega (arith, c.loop-seen-test.true, c.loop-seen.auto.names) in
    set_there (λ n. same_name n c.args.name) xs c.loop-seen.seen-index _ less c.loop-seen.invariant.none (sym c.is_same.ensures ∙ c.if-is_same.true)

pub returns-then-is_same-clause-elsewhere : goal.returns-then-is_same-clause-elsewhere
returns-then-is_same-clause-elsewhere c = λ n differ.
    let xs = c.loop-seen.names in
    let less : c.loop-seen.seen-index < length xs = omega (arith, c.loop-seen-test.true, c.loop-seen.auto.names) in
    let is = sym c.is_same.ensures ∙ c.if-is_same.true in
    let other = apart_tests c.args.name n _ differ is in
    set_other (λ m. same_name m n) xs c.loop-seen.seen-index _ _ less other other ∙ ap (λ (ys : List Seen). state_of ys n) c.loop-seen.invariant.same

pub loop-seen-preserved : goal.loop-seen-preserved
loop-seen-preserved c =
    let xs = c.loop-seen.names in
    let less : c.loop-seen.seen-index < length xs = omega (arith, c.loop-seen-test.true, c.loop-seen.auto.names) in
    let same = set-get_or xs c.loop-seen.seen-index _ in
    record {
      same = same ∙ c.loop-seen.invariant.same;
      none = ap (λ (ys : List Seen). state_of (take (c.loop-seen.seen-index + 1) ys) c.args.name) same
          ∙ take_none (λ n. same_name n c.args.name) xs c.loop-seen.seen-index _ less c.loop-seen.invariant.none (sym c.is_same.ensures ∙ c.if-is_same.false);
    }
