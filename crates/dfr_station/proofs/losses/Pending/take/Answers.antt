use Rattle.std.proofs.Common.{sym, ◌∙◌}
use Rattle.dfr_station.proofs.Taking.{none_there, some_there, last_there}
use Rattle.dfr_station.proofs.losses.Pending.take.Goals as goal

pub returns-then-is_some-5 : goal.returns-then-is_some-5
returns-then-is_some-5 c =
    none_there _ _ _ _ (sym c.is_some.ensures ∙ c.if-is_some.false)
    (none_there _ _ _ _ (sym c.is_some-2.ensures ∙ c.if-is_some-2.false)
    (none_there _ _ _ _ (sym c.is_some-3.ensures ∙ c.if-is_some-3.false)
    (none_there _ _ _ _ (sym c.is_some-4.ensures ∙ c.if-is_some-4.false)
    (some_there _ _ _ _ (sym c.is_some-5.ensures ∙ c.if-is_some-5.true) c.take-then-is_some-5.ensures.value c.take-then-is_some-5.ensures.after))))

pub returns-then-is_some-6 : goal.returns-then-is_some-6
returns-then-is_some-6 c =
    none_there _ _ _ _ (sym c.is_some.ensures ∙ c.if-is_some.false)
    (none_there _ _ _ _ (sym c.is_some-2.ensures ∙ c.if-is_some-2.false)
    (none_there _ _ _ _ (sym c.is_some-3.ensures ∙ c.if-is_some-3.false)
    (none_there _ _ _ _ (sym c.is_some-4.ensures ∙ c.if-is_some-4.false)
    (none_there _ _ _ _ (sym c.is_some-5.ensures ∙ c.if-is_some-5.false)
    (some_there _ _ _ _ (sym c.is_some-6.ensures ∙ c.if-is_some-6.true) c.take-then-is_some-6.ensures.value c.take-then-is_some-6.ensures.after)))))

pub returns-then-is_some-7 : goal.returns-then-is_some-7
returns-then-is_some-7 c =
    none_there _ _ _ _ (sym c.is_some.ensures ∙ c.if-is_some.false)
    (none_there _ _ _ _ (sym c.is_some-2.ensures ∙ c.if-is_some-2.false)
    (none_there _ _ _ _ (sym c.is_some-3.ensures ∙ c.if-is_some-3.false)
    (none_there _ _ _ _ (sym c.is_some-4.ensures ∙ c.if-is_some-4.false)
    (none_there _ _ _ _ (sym c.is_some-5.ensures ∙ c.if-is_some-5.false)
    (none_there _ _ _ _ (sym c.is_some-6.ensures ∙ c.if-is_some-6.false)
    (some_there _ _ _ _ (sym c.is_some-7.ensures ∙ c.if-is_some-7.true) c.take-then-is_some-7.ensures.value c.take-then-is_some-7.ensures.after))))))

pub returns : goal.returns
returns c =
    none_there _ _ _ _ (sym c.is_some.ensures ∙ c.if-is_some.false)
    (none_there _ _ _ _ (sym c.is_some-2.ensures ∙ c.if-is_some-2.false)
    (none_there _ _ _ _ (sym c.is_some-3.ensures ∙ c.if-is_some-3.false)
    (none_there _ _ _ _ (sym c.is_some-4.ensures ∙ c.if-is_some-4.false)
    (none_there _ _ _ _ (sym c.is_some-5.ensures ∙ c.if-is_some-5.false)
    (none_there _ _ _ _ (sym c.is_some-6.ensures ∙ c.if-is_some-6.false)
    (none_there _ _ _ _ (sym c.is_some-7.ensures ∙ c.if-is_some-7.false)
    (last_there _ _ _ c.take-2.ensures.value c.take-2.ensures.after)))))))
