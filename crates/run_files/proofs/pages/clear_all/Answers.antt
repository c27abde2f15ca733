use Rattle.std.proofs.Common.{◌∙◌, ◌<◌, length, arith, inl, inr, below_more}
use Rattle.pcap_file.proofs.lemmas.Numbers.{le_or_lt}
use Rattle.run_files.proofs.PageLemmas.{set_page, other_page, no_page}
use Rattle.run_files.proofs.pages.clear_all.Goals as goal

pub loop-page-preserved : goal.loop-page-preserved
loop-page-preserved c =
    let k = c.loop-page.page-index in
    let within : k < length c.loop-page.pages = omega (arith, c.loop-page-test.true, c.loop-page.auto.pages) in
    below_more _ k
    (λ q lt. other_page c.loop-page.pages k q c.clear.new.self (λ e. absurd (omega (arith, e, lt))) ∙ c.loop-page.invariant q lt)
    (set_page c.loop-page.pages k c.clear.new.self within ∙ c.clear.ensures.items)

pub returns-clause-nothing : goal.returns-clause-nothing
returns-clause-nothing c = λ q. elim (le_or_lt (length c.loop-page.pages) q) [
  | inl past ↦ no_page c.loop-page.pages q past
  | inr lt ↦ c.loop-page.invariant q (omega (arith, lt, c.loop-page-test.false, c.loop-page.auto.pages))
]
