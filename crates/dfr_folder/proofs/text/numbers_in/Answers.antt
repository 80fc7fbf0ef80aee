use Rattle.std.proofs.Common.{◌≡◌, ℕ, Some, sym, ◌∙◌, ap, subst, inl, inr, arith}
use Rattle.std.specs.Fmt.{decimal}
use Rattle.dfr_folder.specs.Texts.{Lacks, numbers_text}
use Rattle.dfr_folder.proofs.SeenLemmas.{Some_not_None}
use Rattle.dfr_folder.proofs.TextLemmas.{copy_cases, decimal_lacks, not_lacked, one_number, two_numbers, same_some, spelled_both}
use Rattle.dfr_folder.proofs.text.numbers_in.Goals as goal

pub returns-in-Some-clause-spelled : goal.returns-in-Some-clause-spelled
returns-in-Some-clause-spelled c =
    let e = c.both_in.ensures in
    spelled_both c.both_in.result c.args.text.now c.in-Some.number.now c.in-Some.copy.now c.in-Some.ensures.parts e.number e.copy e.fits

pub returns-in-Some-clause-reads : goal.returns-in-Some-clause-reads
returns-in-Some-clause-reads c = λ n k few some less is. elim (copy_cases k some) [
  | inl one ↦
      let plain : c.args.text.now ≡ decimal n = is ∙ ap (λ (x : ℕ). numbers_text n x) one ∙ one_number n in
      absurd (not_lacked c.args.text.now c.in-Some.number.now c.in-Some.copy.now 45 c.in-Some.ensures.parts (subst (Lacks 45) (sym plain) (decimal_lacks n 45 few (inl (omega arith)))))
  | inr more ↦
      let parts = c.in-Some.ensures.reads (decimal n) (decimal k) (decimal_lacks n 45 few (inl (omega arith))) (is ∙ two_numbers n k more) in
      c.both_in.ensures.reads n k few more less parts.0 parts.1
]

pub returns-in-Some-number_in-clause-spelled : goal.returns-in-Some-number_in-clause-spelled
returns-in-Some-number_in-clause-spelled c = c.in-Some-number_in.ensures.spelled ∙ sym (one_number c.in-Some-number_in.number)

pub returns-in-Some-number_in-clause-reads : goal.returns-in-Some-number_in-clause-reads
returns-in-Some-number_in-clause-reads c = λ n k few some less is. elim (copy_cases k some) [
  | inl one ↦
      let plain : c.args.text.now ≡ decimal n = is ∙ ap (λ (x : ℕ). numbers_text n x) one ∙ one_number n in
      let number = same_some c.in-Some-number_in.number n (c.in-Some-number_in.ensures.reads n few plain) in
      λ i. Some (number i, sym one i)
  | inr more ↦ absurd (c.in_default.ensures.reads (decimal n) (decimal k) (decimal_lacks n 45 few (inl (omega arith))) (is ∙ two_numbers n k more))
]

pub returns-in-None-clause-reads : goal.returns-in-None-clause-reads
returns-in-None-clause-reads c = λ n k few some less is. elim (copy_cases k some) [
  | inl one ↦
      let plain : c.args.text.now ≡ decimal n = is ∙ ap (λ (x : ℕ). numbers_text n x) one ∙ one_number n in
      absurd (Some_not_None n (sym (c.in-None.ensures.reads n few plain)))
  | inr more ↦ absurd (c.in_default.ensures.reads (decimal n) (decimal k) (decimal_lacks n 45 few (inl (omega arith))) (is ∙ two_numbers n k more))
]
