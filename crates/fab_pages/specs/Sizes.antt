-- About how many bytes what is sent has, and whether threads are worth their start.
use Rattle.std.specs.Prelude.{ℕ, Bool, List, length, nat_lt, sum_by}
use Rattle.std.specs.Option.{option_map_or}
use Rattle.fab_policy.specs.declared.event.Event.{Event}
use Rattle.fab_sending.specs.Message.{frame_at}
use Rattle.fab_sending.specs.declared.message.Out.{Out}
use Rattle.fab_sending.specs.declared.message.OutMessage.{OutMessage}
use Rattle.fab_sending.specs.declared.message.OutMessage.TheVariants.{Solicited, Forwarded}

-- the length of the frame of an entry, or 64 where it has none
abbrev pub size_at : ℕ → List Event → ℕ
size_at entry events = option_map_or (λ f. length f.bytes) (frame_at entry events) 64

-- An advertisement has the size that was asked for and a frame that goes on its own; each other message counts as 64.
abbrev pub size_in : List Event → OutMessage → ℕ
size_in events (Solicited to size) = size
size_in events (Forwarded entry to) = size_at entry events
size_in events _ = 64

abbrev pub bytes_out : List Event → List Out → ℕ
bytes_out events outs = sum_by (λ (o : Out). size_in events o.message) outs

-- fewer bytes than threads are worth
abbrev pub has_few : List Event → List Out → Bool
has_few events outs = nat_lt (bytes_out events outs) 262144
