-- Somebody is overdue exactly where some voice is silent.
use Rattle.std.proofs.Common.{◌≡◌, ℕ, ◌||◌, ◌==◌, Bool, true, false, List, [], ◌∷◌, map, IsSome, Some, unwrap_or, is_some, IsTrue, ◌↔◌, ◌⊎◌, inl, inr, refl, sym, ap, subst, ◌∙◌, cond}
use Rattle.std.proofs.Math.Bool.{or-true}
use Rattle.std.specs.Cmp.{both_ways}
use Rattle.std.specs.List.{list_any}
use Rattle.fab_base.specs.Fabric.{is_silent, PORT_PERIOD}
use Rattle.fab_policy.specs.State.{LivePort}
use Rattle.keepalive_clock.specs.Clock.{last_of, has_silent, HasSilent, is_silent_since, IsFirstSilence}
use Rattle.keepalive_clock.specs.declared.voice.Voice.{Voice}
use Rattle.keepalive_clock.specs.declared.voice.Voice.TheVariants.{Node, Port}
use Rattle.login_table.specs.Logins as logins
use Rattle.login_table.specs.Logins.{login_at}
use Rattle.login_table.specs.declared.login.Login.{Login}
use Rattle.fab_base.proofs.SamenessLemmas.{list_any-found}
use Rattle.fab_roster.specs.Agreement.{Agree, SpeaksFor}
use Rattle.fab_roster.specs.Changes.{IsFirstOverdue, is_late}
use Rattle.fab_roster.specs.Roll.{Roll, live_of, ports_of, roll_of}
use Rattle.fab_roster.specs.declared.roster.Roster.TheInside.{Inside}
use Rattle.fab_roster.proofs.Found.{true_false, same, some_found, any-item_at, enode_same}
use Rattle.fab_roster.proofs.Lookups.{any_login}

or_parts : (a b : Bool) → a || b ≡ true → (a ≡ true) ⊎ (b ≡ true)
or_parts true b e = inl refl
or_parts false b e = inr e

module _ {t : Inside} (agree : Agree t) (silent : (m : ℕ) → IsTrue (has_silent t.voices m) ↔ HasSilent t.voices m) where
  -- an N_Port is overdue, by the periods of the clock
  abbrev overdue_at : ℕ → LivePort → Bool
  overdue_at = is_late t.voices.node_period

  -- the login that a silent voice speaks for is overdue
  by_voice : (m h : ℕ) (v : Voice) (l : Login) → SpeaksFor v l → last_of v t.voices.voices ≡ Some h → is_silent_since t.voices v h m ≡ true → overdue_at m (live_of t l) ≡ true
  by_voice m h (Node x) l speaks last is =
      let heard : unwrap_or (last_of (Node l.enode) t.voices.voices) 0 ≡ h = ap (λ y. unwrap_or (last_of (Node y) t.voices.voices) 0) (enode_same l.enode x speaks) ∙ ap (λ o. unwrap_or o 0) last in
      ap (λ n. is_silent t.voices.node_period n m || is_silent PORT_PERIOD (unwrap_or (last_of (Port l.address) t.voices.voices) 0) m) heard
      ∙ ap (λ b. b || is_silent PORT_PERIOD (unwrap_or (last_of (Port l.address) t.voices.voices) 0) m) is
  by_voice m h (Port a) l speaks last is =
      let heard : unwrap_or (last_of (Port l.address) t.voices.voices) 0 ≡ h = ap (λ y. unwrap_or (last_of (Port y) t.voices.voices) 0) speaks ∙ ap (λ o. unwrap_or o 0) last in
      ap (λ n. is_silent t.voices.node_period (unwrap_or (last_of (Node l.enode) t.voices.voices) 0) m || is_silent PORT_PERIOD n m) heard
      ∙ (ap (λ b. is_silent t.voices.node_period (unwrap_or (last_of (Node l.enode) t.voices.voices) 0) m || b) (ap (λ n. is_silent n h m) (sym agree.voices.port_period) ∙ is) ∙ or-true (is_silent t.voices.node_period (unwrap_or (last_of (Node l.enode) t.voices.voices) 0) m))

  -- a login that is overdue has a silent voice
  by_login : (m a : ℕ) (l : Login) → login_at a t.logins.logins ≡ Some l → overdue_at m (live_of t l) ≡ true → HasSilent t.voices m
  by_login m a l found is =
      let node = some_found (last_of (Node l.enode) t.voices.voices) (agree.voices.nodes a l found) in
      let port = some_found (last_of (Port l.address) t.voices.voices) (agree.voices.ports a l found) in
      elim (or_parts (is_silent t.voices.node_period (unwrap_or (last_of (Node l.enode) t.voices.voices) 0) m) (is_silent PORT_PERIOD (unwrap_or (last_of (Port l.address) t.voices.voices) 0) m) is) [
        | inl e ↦ (Node l.enode, node.0, node.1, ap (λ o. is_silent t.voices.node_period (unwrap_or o 0) m) (sym node.1) ∙ e)
        | inr e ↦ (Port l.address, port.0, port.1, ap (λ n. is_silent n port.0 m) agree.voices.port_period ∙ (ap (λ o. is_silent PORT_PERIOD (unwrap_or o 0) m) (sym port.1) ∙ e))
      ]

  same_silence : (m : ℕ) → list_any (overdue_at m) (ports_of t) ≡ has_silent t.voices m
  same_silence m = both_ways (list_any (overdue_at m) (ports_of t)) (has_silent t.voices m) there back
    where
      as_logins : list_any (overdue_at m) (ports_of t) ≡ list_any (λ l. overdue_at m (live_of t l)) t.logins.logins
      as_logins = sym (any_login t refl (overdue_at m) (λ l. overdue_at m (live_of t l)) (λ l. refl))

      there : list_any (overdue_at m) (ports_of t) ≡ true → has_silent t.voices m ≡ true
      there e =
          let f = any-item_at logins.address_of (λ l. overdue_at m (live_of t l)) 0 t.logins.logins agree.logins.sound.ascending (sym as_logins ∙ e) in
          (silent m).1 (by_login m f.0.address f.0 f.1 f.2)

      back : has_silent t.voices m ≡ true → list_any (overdue_at m) (ports_of t) ≡ true
      back e =
          let s = (silent m).0 e in
          let f = agree.voices.speak s.0 (ap (λ o. is_some o) s.2) in
          as_logins ∙ list_any-found (λ l. l.address == f.0.address) (λ l. overdue_at m (live_of t l)) f.0 t.logins.logins f.1 (by_voice m s.1 s.0 f.0 f.2 s.2 s.3)

  pub first_overdue : {R : Roll} (m : ℕ) → roll_of t ≡ R → IsFirstSilence t.voices m → IsFirstOverdue R m
  first_overdue m view first = subst (λ r. IsFirstOverdue r m) view (subst (λ n. IsFirstOverdue (roll_of (record t { period = n })) m) agree.voices.node_period (record {
    some = same_silence m ∙ first.silent;
    before = λ n lt. same_silence n ∙ first.before n lt;
  }))

  -- without voices nobody is live
  pub nobody_overdue : t.voices.voices ≡ [] → ports_of t ≡ []
  nobody_overdue none = go t.logins.logins (agree.voices.nodes)
    where
      go : (ls : List Login) → ((a : ℕ) (l : Login) → login_at a ls ≡ Some l → IsSome (last_of (Node l.enode) t.voices.voices)) → map (live_of t) ls ≡ []
      go [] heard = refl
      go (l ∷ ls) heard =
          absurd (true_false (sym (heard l.address l (ap (λ b. cond b (Some l) (login_at l.address ls)) (same l.address))) ∙ ap (λ vs. is_some (last_of (Node l.enode) vs)) none))
