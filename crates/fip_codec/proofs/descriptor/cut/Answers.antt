use Rattle.std.proofs.Common.{◌≡◌, ◌*◌, ◌-◌, ◌+◌, ◌∙◌, ap, take, drop, arith, get_or}
use Rattle.std.proofs.lemmas.List.{take_rest, drop-drop}
use Rattle.fip_codec.proofs.descriptor.cut.Goals as goal
use Rattle.fip_codec.proofs.descriptor.cut.Goals.{then-size-eq0-via-then-size-eq0, then-size-eq0-via-else-size-eq0+then-list-size}
use Rattle.fip_codec.proofs.Listed.{listed-none, listed-short, listed-zero, listed-long, listed-whole, listed-front}

pub returns-in_default-clause-broken : goal.returns-in_default-clause-broken
returns-in_default-clause-broken c = λ _ pos at. listed-short _ c.in_default.len_below pos at

pub returns-in_default-clause-end : goal.returns-in_default-clause-end
returns-in_default-clause-end c = λ _ e at. listed-none _ e at

pub returns-then-size-eq0-clause-broken : goal.returns-then-size-eq0-clause-broken
returns-then-size-eq0-clause-broken c = λ _ pos at.
    elim c.then-size-eq0.branch [
      | then-size-eq0-via-then-size-eq0 w ↦ listed-zero _ (omega arith) pos at
      | then-size-eq0-via-else-size-eq0+then-list-size w ↦ listed-long _ (omega arith) pos at
    ]

pub returns-clause-whole : goal.returns-clause-whole
returns-clause-whole c =
    let l = c.args.list.now in
    let k = 4 * get_or l 1 0 - 2 in
    listed-whole l _ _ c.in-len2-up.len_at_least (omega arith) c.if-list-size.false
    (c.split_at.ensures.front ∙ ap (take k) (take_rest l 2)) (c.split_at.ensures.back ∙ ap (drop k) (take_rest l 2))

pub returns-clause-rest : goal.returns-clause-rest
returns-clause-rest c =
    let l = c.args.list.now in
    let k = 4 * get_or l 1 0 - 2 in
    let e : 2 + k ≡ 4 * get_or l 1 0 = omega arith in
    (c.split_at.ensures.back ∙ ap (drop k) (take_rest l 2) ∙ drop-drop k 2 l ∙ ap (λ n. drop n l) e, c.if-list-size.false)

pub returns-clause-front : goal.returns-clause-front
returns-clause-front c =
    let l = c.args.list.now in
    let k = 4 * get_or l 1 0 - 2 in
    listed-front l _ c.in-len2-up.len_at_least (omega arith) c.if-list-size.false (c.split_at.ensures.front ∙ ap (take k) (take_rest l 2))
