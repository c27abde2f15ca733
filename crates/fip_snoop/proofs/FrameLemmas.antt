-- A frame's way, and what is kept behind it.
use Rattle.std.proofs.Common.{◌≡◌, ℕ, Bool, List, ◌∷◌, Option, refl, sym, ◌∙◌, ap, subst}
use Rattle.std.specs.Prelude.{Ok, Err}
use Rattle.fab_base.specs.declared.values.Caught.{Caught}
use Rattle.heard_frames.specs.Heard.{What, Bad, Fip, Fcoe, decoded}
use Rattle.fip_snoop.specs.History.{Handled, History, home, bound, has_moved}
use Rattle.fip_snoop.specs.Ways.{way_by, way_of}
use Rattle.fip_snoop.specs.Snoop.{Contents, is_home_of, home_in, is_binding_of, binding_in, is_moved_in, way_for, after, Remembers}
use Rattle.fip_snoop.specs.Maps.{IsLike}
use Rattle.fip_snoop.specs.declared.bindings.Binding.{Binding}
use Rattle.fip_snoop.specs.declared.forwarder.Forwarder.{Forwarder}
use Rattle.fip_snoop.specs.declared.way.Way.{Way}
use Rattle.fip_snoop.proofs.ListLemmas.{found, found_by}
use Rattle.fip_snoop.proofs.KeptLemmas.{remembers-entry, remembers-like}
use Rattle.fip_snoop.proofs.MovedLemmas.{moved-kept}

-- look-ups that find the same give the same way
same_way : (w : Forwarder) (h k : List ℕ → Option ℕ) (b c : List ℕ → Option Binding) (m n : List ℕ → Bool) (port : ℕ) (what : What)
    → ((mac : List ℕ) → h mac ≡ k mac) → ((mac : List ℕ) → b mac ≡ c mac) → ((mac : List ℕ) → m mac ≡ n mac) → way_by w h b m port what ≡ way_by w k c n port what
same_way w h k b c m n port (Bad fault) homes bounds moved = refl
same_way w h k b c m n port (Fip f x) homes bounds moved = rw (homes f.dst) (rw (bounds f.src) (rw (moved f.src) refl))
same_way w h k b c m n port (Fcoe f (Err fault)) homes bounds moved = refl
same_way w h k b c m n port (Fcoe f (Ok x)) homes bounds moved = rw (bounds f.dst) (rw (bounds f.src) refl)

pub frame_way : (w : Forwarder) (L : History) (s : Contents) (port : ℕ) (caught : Caught) (what : What) (way : Way) → Remembers w L s → what ≡ decoded caught → way ≡ way_for s.forwarder s.homes s.bindings port what → way ≡ way_of w L port caught
unfolding way_of
frame_way w L s port caught what way r is says =
    says ∙ ap (way_for s.forwarder s.homes s.bindings port) is ∙ ap (λ v. way_for v s.homes s.bindings port (decoded caught)) r.forwarder
    ∙ same_way w (home_in s.homes) (home L) (binding_in s.bindings) (bound w L) (is_moved_in s.bindings port) (has_moved w L port) port (decoded caught)
    (λ mac. found_by (λ h. h.port) (is_home_of mac) s.homes (home L mac) (r.homes mac))
    (λ mac. found (is_binding_of mac) s.bindings (bound w L mac) (r.bindings mac))
    (λ mac. moved-kept w L port mac s r)

pub frame_kept : (w : Forwarder) (L : History) (s t : Contents) (port : ℕ) (caught : Caught) (what : What) (way : Way) → Remembers w L s → what ≡ decoded caught → IsLike t (after port what way s) → Remembers w (record { port = port; caught = caught; way = way } ∷ L) t
frame_kept w L s t port caught what way r is like =
    let h : Handled = record { port = port; caught = caught; way = way } in
    remembers-like w (h ∷ L) t (after port what way s) like (subst (λ v. Remembers w (h ∷ L) (after port v way s)) (sym is) (remembers-entry w L s h r))
