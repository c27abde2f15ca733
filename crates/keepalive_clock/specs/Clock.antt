-- What a contract sees of a clock: the two periods, how many voices it may hold, and each voice with its last moment. The
-- order of the voices says nothing.
use Rattle.std.specs.Prelude.{◌≡◌, ℕ, ◌<◌, ◌≤◌, Bool, true, false, List, length, Option, None, Some, option_map, IsTrue, ◌+◌, is_some, if◌then◌else◌}
use Rattle.std.specs.List.{list_any}
use Rattle.std.specs.Option.{option_map_or}
use Rattle.fab_base.specs.Fabric.{is_silent}
use Rattle.fab_base.specs.Keyed as keyed
use Rattle.keepalive_clock.specs.Voices.{same_voice}
use Rattle.keepalive_clock.specs.declared.voice.Voice.{Voice}
use Rattle.keepalive_clock.specs.declared.voice.Voice.TheVariants.{Node, Port}
use Rattle.keepalive_clock.specs.declared.voice.LastHeard.{LastHeard}

pub record VoiceClock : Type 0 where
  pub node_period : ℕ
  pub port_period : ℕ
  pub room : ℕ
  pub voices : List LastHeard

-- ---- questions

-- the key of a last moment
abbrev pub voice_of : LastHeard → Voice
voice_of x = x.voice

-- a voice with its last moment, if it is there
abbrev pub heard_of : Voice → List LastHeard → Option LastHeard
heard_of voice voices = keyed.item_of voice_of same_voice voice voices

-- the last moment of a voice
abbrev pub last_of : Voice → List LastHeard → Option ℕ
last_of voice voices = option_map (λ x. x.last) (heard_of voice voices)

-- ENodes send their keep alives once in a period, N_Ports once in another
abbrev pub period_of : ℕ → ℕ → Voice → ℕ
period_of node port (Node x) = node
period_of node port (Port a) = port

-- a voice is silent too long that was heard at this moment
abbrev pub is_silent_since : VoiceClock → Voice → ℕ → ℕ → Bool
is_silent_since c voice heard now = is_silent (period_of c.node_period c.port_period voice) heard now

-- the same of a voice with its last moment
abbrev pub is_overdue : VoiceClock → ℕ → LastHeard → Bool
is_overdue c now x = is_silent_since c x.voice x.last now

-- the voice is there, and silent too long
abbrev pub is_silent_voice : VoiceClock → ℕ → Voice → Bool
is_silent_voice c now voice = option_map_or (is_overdue c now) (heard_of voice c.voices) false

-- some voice is silent too long
abbrev pub has_silent : VoiceClock → ℕ → Bool
has_silent c now = list_any (is_overdue c now) c.voices

-- The same by look-ups alone: the last moment of some voice is too long ago.
abbrev pub HasSilent : VoiceClock → ℕ → Type 0
HasSilent c now = (voice : Voice) × (heard : ℕ) × (last_of voice c.voices ≡ Some heard) × IsTrue (is_silent_since c voice heard now)

-- The least moment at which some voice is silent too long.
pub record IsFirstSilence (c : VoiceClock) (moment : ℕ) : Type 0 where
  pub silent : has_silent c moment ≡ true
  pub before : (m : ℕ) → m < moment → has_silent c m ≡ false

-- ---- changes

-- the voices without this one
abbrev pub without : Voice → List LastHeard → List LastHeard
without voice voices = keyed.all_but voice_of same_voice voice voices

-- how many voices there are with this one
abbrev pub count_with : Voice → List LastHeard → ℕ
count_with voice voices = if is_some (last_of voice voices) then length voices else length voices + 1

-- the voice was heard at this moment, and every other when it was before
abbrev pub HearsVoice : Voice → ℕ → List LastHeard → List LastHeard → Type 0
HearsVoice voice now old new = (w : Voice) → last_of w new ≡ (if same_voice voice w then Some now else last_of w old)

-- the voice is gone, and every other was heard when it was before
abbrev pub ForgetsVoice : Voice → List LastHeard → List LastHeard → Type 0
ForgetsVoice voice old new = (w : Voice) → last_of w new ≡ (if same_voice voice w then None else last_of w old)

-- periods and room stay
pub record KeepsLimits (old new : VoiceClock) : Type 0 where
  pub node_period : new.node_period ≡ old.node_period
  pub port_period : new.port_period ≡ old.port_period
  pub room : new.room ≡ old.room

-- ---- what holds of every clock

-- no voice comes twice
abbrev pub VoicesDiffer : List LastHeard → Type 0
VoicesDiffer voices = keyed.KeysDiffer voice_of same_voice voices

-- No voice comes twice, and there are at most `room`.
pub record IsSound (c : VoiceClock) : Type 0 where
  pub differ : VoicesDiffer c.voices
  pub bound : length c.voices ≤ c.room
