-- What follows from how `live` ended.
use Rattle.std.proofs.Common.{ℕ, List, ◌∷◌, length, ◌⊎◌, arith, inl, inr}
use Rattle.fab_base.specs.Seen.{Seen, SameFiles}
use Rattle.fab_config.specs.Settings.{Settings}
use Rattle.pcapng_file.specs.declared.NgRecord.{NgRecord}
use Rattle.pcapng_file.specs.declared.fault.NgWhy.{NgWhy}
use Rattle.pcap_file.specs.declared.fault.LimitKind.{LimitKind}
use Rattle.pcap_file.specs.declared.fault.LimitKind.TheVariants as kinds
use Rattle.fab_live.specs.Live.{IsFaulty, IsNoPort, IsPast}
use Rattle.fabric_tool.specs.Command.{LiveWords, by_port, Live}
use Rattle.fabric_tool.specs.Ends.{TakesMemory, Holds}
use Rattle.fabric_tool.specs.Inputs.{LIMITS}
use Rattle.fabric_tool.specs.Living.{session_of, all_came, HasLived, HasHalted, HasLiveFront, IsBegun, IsLiveRefused, live_ending}
use Rattle.fabric_tool.specs.declared.outcome.Outcome.{Outcome}
use Rattle.fabric_tool.specs.declared.outcome.Outcome.TheVariants as ends
use Rattle.fabric_tool.proofs.EndingLemmas.{Left}
use Rattle.fabric_tool.proofs.PartLemmas.{all_fronts, whole_fronts}
use Rattle.fabric_tool.proofs.StreamLemmas.{begins_file, begins_stop}

-- ---- whole sessions are fronts

module _ (k : LiveWords) (old new : Seen) where
  all_begun : (Why : Settings → List NgRecord → List ℕ → Type 0) → ((c : Settings) (packets : List NgRecord) (bytes : List ℕ) → Why c packets bytes → IsBegun c packets bytes) → HasHalted k Why old new → HasHalted k IsBegun old new
  all_begun Why begun h =
      let x = h.halt in
      record {
        halt = record { settings = x.settings; config = x.config; bytes = x.bytes; stream = x.stream; packets = x.packets; faces = x.faces; span = x.span; why = begun x.settings x.packets x.bytes x.why };
        session = h.session;
      }

  halted_front : HasHalted k IsBegun old new → HasLiveFront k old new
  halted_front h =
      let s = h.session in
      record {
        halt = h.halt;
        journal = s.journal;
        run = s.run;
        files = record {
          sent = whole_fronts (session_of k) (k.journal ∷ by_port k.ins k.outs) h.halt.settings old new s.journal s.files.sent;
          came = all_fronts old new k.ins (all_came (length k.ins) h.halt.packets) s.files.came;
        };
      }

  -- a stream with a fault, with a packet of no port, and one past a limit begins with the packets before it
  stream_begun : (at : ℕ) (why : NgWhy) → HasHalted k (λ c. IsFaulty LIMITS at why) old new → HasHalted k IsBegun old new
  stream_begun at why = all_begun (λ c. IsFaulty LIMITS at why) (λ c packets bytes w. begins_stop packets bytes LIMITS _ w)

  port_begun : (face : ℕ) → HasHalted k (λ c. IsNoPort LIMITS (length k.outs) face) old new → HasHalted k IsBegun old new
  port_begun face = all_begun (λ c. IsNoPort LIMITS (length k.outs) face) (λ c packets bytes w. w.0)

  limit_begun : (kind : LimitKind) → HasHalted k (λ c. IsPast c LIMITS (length k.outs) kind) old new → HasHalted k IsBegun old new
  limit_begun kinds.Bytes = all_begun (λ c. IsPast c LIMITS (length k.outs) kinds.Bytes) (λ c packets bytes w. begins_stop packets bytes LIMITS _ w)
  limit_begun kinds.Frames = all_begun (λ c. IsPast c LIMITS (length k.outs) kinds.Frames) (λ c packets bytes w. begins_stop packets bytes LIMITS _ w)
  limit_begun kinds.Span = all_begun (λ c. IsPast c LIMITS (length k.outs) kinds.Span) (λ c packets bytes w. w.0)

  lived_begun : (frames entries : ℕ) → HasLived k frames entries old new → HasHalted k IsBegun old new
  lived_begun frames entries h = record {
    halt = record {
      settings = h.settings;
      config = h.config;
      bytes = h.stream.bytes;
      stream = h.stream.file;
      packets = h.packets;
      faces = h.session.run.faces;
      span = h.session.run.span;
      why = begins_file h.packets h.stream.bytes h.stream.is;
    };
    session = h.session;
  }

  refused_front : IsLiveRefused k old new → SameFiles old new ⊎ HasLiveFront k old new
  refused_front (inl same) = inl same
  refused_front (inr (inl halted)) = inr (halted_front halted)
  refused_front (inr (inr front)) = inr front.0

  pub live_front : (o : Outcome) → Left (live_ending k old new o) → SameFiles old new ⊎ HasLiveFront k old new
  live_front (ends.Ran frames entries) h = inr (halted_front (lived_begun frames entries h))
  live_front (ends.BadStream at why) h = inr (halted_front (stream_begun at why h))
  live_front (ends.NoPort face) h = inr (halted_front (port_begun face h))
  live_front (ends.Limit kind) h = inr (halted_front (limit_begun kind h))
  live_front ends.ReadFault h = elim h [ inl config ↦ inl config.0 | inr later ↦ elim later [ inl closed ↦ inl closed.0 | inr halted ↦ inr (halted_front halted.1) ] ]
  live_front ends.WriteFault h = inr h
  live_front ends.Memory h = refused_front h
  live_front o h = absurd h

  -- want of memory for the line of an outcome says less
  pub live_spare : (o : Outcome) → Holds (Live k) old new o → TakesMemory o → Holds (Live k) old new ends.Memory
  live_spare (ends.Ran frames entries) h takes = (h.0, λ told. inr (inl (lived_begun frames entries (h.1 told))), h.2)
  live_spare (ends.Config fault) h takes = (λ m none. h.0 m, λ told. inl h.0, h.2)
  live_spare (ends.BadStream at why) h takes = (h.0, λ told. inr (inl (stream_begun at why (h.1 told))), h.2)
  live_spare (ends.NoPort face) h takes = (h.0, λ told. inr (inl (port_begun face (h.1 told))), h.2)
  live_spare (ends.Limit kind) h takes = (h.0, λ told. inr (inl (limit_begun kind (h.1 told))), h.2)
  live_spare o h takes = absurd (omega arith)
