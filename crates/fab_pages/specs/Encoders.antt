-- Pages that are out with encoders, each of which appends the records of one port.
use Rattle.std.specs.Prelude.{◌≡◌, ◌==◌, ℕ, ◌+◌, ◌<◌, Bool, false, cond, ◌||◌, List, [], ◌∷◌, ◌++◌, length}
use Rattle.std.specs.List.{filter}
use Rattle.fab_policy.specs.Growing.{records_to}
use Rattle.fab_policy.specs.Outputs.{Sent}
use Rattle.fab_sending.specs.declared.message.Out.{Out}
use Rattle.fab_pages.specs.Pages.{GoesOn, piece_at}
use Rattle.fab_pages.specs.declared.encoders.Encoder.{Encoder}

-- an encoder has the page of this place
abbrev pub has_place : ℕ → List Encoder → Bool
has_place q [] = false
has_place q (e ∷ es) = (e.place == q) || has_place q es

-- the page of a place: with an encoder, or else this
abbrev pub page_in : ℕ → List Encoder → List ℕ → List ℕ
page_in q [] page = page
page_in q (e ∷ es) page = cond (e.place == q) e.page.items (page_in q es page)

-- the encoders' places are below this
abbrev pub AreBelow : ℕ → List Encoder → Type 0
AreBelow n [] = Unit {0}
AreBelow n (e ∷ es) = (e.place < n) × AreBelow n es

-- none was refused memory
abbrev pub NoneRefused : List Encoder → Type 0
NoneRefused [] = Unit {0}
NoneRefused (e ∷ es) = (e.refused ≡ false) × NoneRefused es

-- no frame is sent on the port at this place
abbrev pub NoneFor : ℕ → List Out → Type 0
NoneFor q outs = filter (λ o. o.port == q + 1) outs ≡ []

-- Of the first k places, the pages of those with a record are out with encoders, and all other pages are where they were.
pub record AreOut (k : ℕ) (outs : List Out) (es : List Encoder) (old new : List (List ℕ)) : Type 0 where
  pub within : AreBelow k es
  pub pages : (q : ℕ) → q < length old → page_in q es (piece_at new q) ≡ piece_at old q
  pub others : (q : ℕ) → q < k → has_place q es ≡ false → NoneFor q outs

-- An encoder appended the records of its port, or some of them where it was refused memory.
pub record IsEncoded (sents : List Sent) (old new : Encoder) : Type 0 where
  pub place : new.place ≡ old.place
  pub records : new.refused ≡ false → new.page.items ≡ old.page.items ++ records_to (old.place + 1) sents
  pub front : GoesOn old.page.items new.page.items
