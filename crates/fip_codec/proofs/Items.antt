-- The lists of a message, item by item.
use Rattle.std.proofs.Common.{◌≡◌, ℕ, List, length, slice_get, Some, None, sym, ap, ◌∙◌}
use Rattle.std.specs.Option.{option_map}
use Rattle.std.proofs.lemmas.Option.{slice_get-map}
use Rattle.std.proofs.lemmas.List.{length-map}
use Rattle.fip_codec.specs.Fip.{HEADER, items}
use Rattle.fip_codec.specs.Table.{parts}
use Rattle.fip_codec.specs.Walk.{listed, of_type}
use Rattle.fip_codec.proofs.Sound.{parts_of, none_of}

module _ {X : Type 0} (kind : ℕ) (value : List ℕ → X) (l : List ℕ) where
  pub item_at : (i k : ℕ) (content : List ℕ) → Some (k, content) ≡ option_map parts (slice_get (of_type kind HEADER l) i) → Some (value content) ≡ slice_get (items kind value l) i
  unfolding of_type listed
  item_at i k content e =
      let p = parts_of (slice_get (of_type kind HEADER l) i) k content e in
      sym (slice_get-map (λ d. value d.content) (of_type kind HEADER l) i ∙ ap (option_map (λ d. value d.content)) p.1 ∙ ap (λ m. Some (value m)) p.3)

  pub no_item_at : (i : ℕ) → None ≡ option_map parts (slice_get (of_type kind HEADER l) i) → None ≡ slice_get (items kind value l) i
  unfolding of_type listed
  no_item_at i e = sym (slice_get-map (λ d. value d.content) (of_type kind HEADER l) i ∙ ap (option_map (λ d. value d.content)) (none_of (slice_get (of_type kind HEADER l) i) e))

  pub items-len : length (of_type kind HEADER l) ≡ length (items kind value l)
  unfolding of_type listed
  items-len = sym (length-map (of_type kind HEADER l) (λ d. value d.content))
