-- Whom a forwarder names in what it sends is logged in: who asks the name server and whom the answer is about (FC-GS-6, "Name Server"),
-- both ends of a frame that goes on (FC-BB-5, "FCoE forwarding"), who is told of a state change and of whom (FC-LS-2, "Registered
-- State Change Notification").
use Rattle.std.specs.Prelude.{◌≡◌, ℕ, ◌⊎◌, true, List, [], ◌∷◌, ◌++◌, map, Some}
use Rattle.std.specs.List.{All}
use Rattle.fab_config.specs.Settings.{Settings}
use Rattle.ct_messages.specs.Ct.{Ask, PortNameOf, NodeNameOf, TypesOf, FeaturesOf}
use Rattle.ct_messages.specs.declared.CtTell.{CtTell}
use Rattle.ct_messages.specs.declared.CtTell.TheVariants as tell
use Rattle.fab_policy.specs.Journal.{Journal}
use Rattle.heard_frames.specs.Heard.{s_id, d_id, ask_of}
use Rattle.fab_policy.specs.Legal.{Legal}
use Rattle.fab_policy.specs.Logins.{NPort, login, is_live, ends}
use Rattle.fab_policy.specs.Outputs.{Notice, notices}
use Rattle.fab_policy.specs.Queries.{query}
use Rattle.fab_policy.specs.State.{LivePort, port_at, tables_of}
use Rattle.fab_policy.specs.declared.event.Event.{Event}
use Rattle.fab_policy.specs.declared.event.Event.TheVariants.{Frame}
use Rattle.fab_policy.specs.declared.verdict.Verdict.TheVariants.{Answered, Forwarded}

-- the address is logged in after J
abbrev pub IsLive : Journal → ℕ → Type 0
IsLive J a = is_live a J ≡ true

-- the address is logged in after J, and the entry ends that login
abbrev pub IsEndedBy : Event → Journal → ℕ → Type 0
IsEndedBy e J a = (p : NPort) × (login a J ≡ Some p) × (ends a p.enode e ≡ true)

-- the address that a query asks about: GPN_ID, GNN_ID, GFT_ID and GFF_ID have one
abbrev pub asked_about : Ask → List ℕ
asked_about (PortNameOf a) = a ∷ []
asked_about (NodeNameOf a) = a ∷ []
asked_about (TypesOf a) = a ∷ []
asked_about (FeaturesOf a) = a ∷ []
asked_about _ = []

-- the addresses that an answer lists
abbrev pub listed : CtTell → List ℕ
listed (tell.Port a) = a ∷ []
listed (tell.Addresses list) = list
listed (tell.Names list) = map (λ x. x.address) list
listed (tell.Next p) = p.address ∷ []
listed _ = []

-- Who asks is logged in, and so is everybody whom the answer is about.
abbrev pub AnswersAreLive : Settings → Journal → Event → Type 0
AnswersAreLive c J (Frame port index caught Answered) =
    (b : LivePort) × (port_at (s_id caught) (tables_of c J).ports ≡ Some b) × IsLive J (s_id caught)
    × All (IsLive J) (asked_about (ask_of caught) ++ listed (query c (tables_of c J) b (ask_of caught)))
AnswersAreLive c J _ = Unit {0}

-- Both ends of a frame that goes on are logged in.
abbrev pub EndsAreLive : Journal → Event → Type 0
EndsAreLive J (Frame port index caught (Forwarded q)) = IsLive J (s_id caught) × IsLive J (d_id caught)
EndsAreLive J _ = Unit {0}

-- the state changes that an entry after J sends
abbrev pub notices_of : Settings → Journal → Event → List Notice
notices_of c J e = notices c (tables_of c J) (tables_of c (e ∷ J)) e

-- Whom an entry after J names: who asks and who is answered of, both ends of what goes on; who is told of a state change is logged in
-- then, and so is whom it is about, but for those whose login the entry ends.
pub record NamesTheLive (c : Settings) (J : Journal) (e : Event) : Type 0 where
  pub answers : AnswersAreLive c J e
  pub forwards : EndsAreLive J e
  pub watchers : All (λ n. IsLive (e ∷ J) n.watcher) (notices_of c J e)
  pub affected : All (λ n. IsLive (e ∷ J) n.affected ⊎ IsEndedBy e J n.affected) (notices_of c J e)

-- So it is in each legal journal.
abbrev pub LegalNamesTheLive : Type 0
LegalNamesTheLive = (c : Settings) (J : Journal) (e : Event) → Legal c (e ∷ J) → NamesTheLive c J e
