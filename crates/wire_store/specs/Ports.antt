-- Devices: what was heard of them and sent by them; and what is fetched and sent.
use Rattle.std.specs.Prelude.{◌≡◌, ◌≢◌, ℕ, ◌≤◌, ◌<◌, Bool, IsTrue, List, [], ◌++◌, length, take, Option, None, IfSome}
use Rattle.std.specs.Option.{option_to_list}
use Rattle.wire_store.specs.declared.Heard.{Heard}
use Rattle.wire_store.specs.Written.{stream_head, blocks_bytes, Fits, AllFit}
use Rattle.wire_store.specs.Cut.{first_frame, Cuts, Cutting, with_piece, Stands, Wholes}

-- Devices at a moment: how many there are; and, where they tell, the frames that were heard so far, in the order in which they were
-- taken, and those that each was given to send. They may cease to tell, as where a double has no memory to keep what it was given.
pub record Acts : Type 0 where
  pub told : Bool
  pub ports : ℕ
  pub heard : List Heard
  pub sent : ℕ → List (List ℕ)

-- One frame more is heard, or they have ended. Nothing is sent.
pub record Hears (old new : Acts) (result : Option Heard) : Type 0 where
  pub told : IsTrue new.told → IsTrue old.told
  pub ports : new.ports ≡ old.ports
  pub fits : IfSome result (Fits old.ports)
  pub heard : IsTrue new.told → new.heard ≡ old.heard ++ option_to_list result
  pub sent : IsTrue new.told → (q : ℕ) → new.sent q ≡ old.sent q

-- A port is given these frames to send, and no other port is given one. Nothing is heard.
pub record Sends (port : ℕ) (frames : List (List ℕ)) (old new : Acts) : Type 0 where
  pub told : IsTrue new.told → IsTrue old.told
  pub ports : new.ports ≡ old.ports
  pub heard : IsTrue new.told → new.heard ≡ old.heard
  pub here : IsTrue new.told → new.sent port ≡ old.sent port ++ frames
  pub others : IsTrue new.told → (q : ℕ) → q ≢ port → new.sent q ≡ old.sent q

-- ---- the stream

-- What waits to be fetched goes on by the blocks of the frames that are heard, one at most.
pub record Waits (before after : List ℕ) (old new : Acts) (goes : Bool) : Type 0 where
  pub told : IsTrue new.told → IsTrue old.told
  pub ports : new.ports ≡ old.ports
  pub sent : IsTrue new.told → (q : ℕ) → new.sent q ≡ old.sent q
  pub hs : List Heard
  pub fit : AllFit old.ports hs
  pub heard : IsTrue new.told → new.heard ≡ old.heard ++ hs
  pub bytes : after ≡ before ++ blocks_bytes hs
  pub some : IsTrue goes → 0 < length after
  pub ended : ¬ IsTrue goes → (after ≡ []) × (hs ≡ [])

-- A fetch takes the first n bytes of what waits, and of the block of what is heard where nothing waits. It is 0 only where nothing waits
-- and nothing was heard.
pub record Feeds (buffer before after : List ℕ) (old new : Acts) (n : ℕ) : Type 0 where
  pub told : IsTrue new.told → IsTrue old.told
  pub ports : new.ports ≡ old.ports
  pub sent : IsTrue new.told → (q : ℕ) → new.sent q ≡ old.sent q
  pub bound : n ≤ length buffer
  pub hs : List Heard
  pub fit : AllFit old.ports hs
  pub heard : IsTrue new.told → new.heard ≡ old.heard ++ hs
  pub taken : take n buffer ++ after ≡ before ++ blocks_bytes hs
  pub ended : n ≡ 0 → (before ≡ []) × (hs ≡ [])

-- These bytes were fetched of the stream of these frames, and these wait: what was fetched is a front of the stream.
pub record Fed (n : ℕ) (fetched waits : List ℕ) (heard : List Heard) : Type 0 where
  pub fit : AllFit n heard
  pub bytes : fetched ++ waits ≡ stream_head n ++ blocks_bytes heard

-- ---- the outputs

-- A splitter gave all that it had to give.
pub record Gives (fs : List (List ℕ)) (old new : Cutting) : Type 0 where
  pub lacks : new.lacks ≡ old.lacks
  pub cuts : Cuts fs old.held new.held
  pub no_more : first_frame new.held ≡ None

-- What a splitter had to give was given to a port.
pub record Given (port : ℕ) (before after : Cutting) (old new : Acts) : Type 0 where
  pub frames : List (List ℕ)
  pub gives : Gives frames before after
  pub sends : Sends port frames old new

-- Behind a piece that was put a port is given each frame whose record it makes whole.
abbrev pub SendsPiece : ℕ → Cutting → Cutting → List ℕ → Acts → Acts → Type 0
SendsPiece port before after piece old new = Given port (with_piece before piece) after old new

-- ---- laws

-- Before the first fetch the head waits; and each fetch takes of the stream of what was heard.
abbrev pub FeedsOn : Type 0
FeedsOn =
    ((n : ℕ) → Fed n [] (stream_head n) [])
    × ((n k : ℕ) (buffer before after fetched : List ℕ) (old new : Acts) → IsTrue new.told → old.ports ≡ n → Fed n fetched before old.heard → Feeds buffer before after old new k → Fed n (fetched ++ take k buffer) after new.heard)

-- Where pieces are put one after another, a port was given exactly the frames of the records that are whole in all of them.
abbrev pub SendsOn : Type 0
SendsOn =
    (fs : List (List ℕ)) (l piece : List ℕ) (port : ℕ) (before after : Cutting) (old new : Acts) → IsTrue new.told → Stands fs l before → old.sent port ≡ fs → SendsPiece port before after piece old new
    → Wholes (new.sent port) (l ++ piece) × Stands (new.sent port) (l ++ piece) after

-- ---- inside the crate

-- What stands while a splitter gives: these frames were given to the port.
pub record Sending (port : ℕ) (before now : Cutting) (old new : Acts) : Type 0 where
  pub frames : List (List ℕ)
  pub lacks : now.lacks ≡ before.lacks
  pub cuts : Cuts frames before.held now.held
  pub sends : Sends port frames old new
