-- A capture: how many frames it has, and how it is put together.
use Rattle.std.proofs.Common.{◌≡◌, ℕ, ◌+◌, List, [], ◌∷◌, ◌++◌, length, length-append, flat_map, Ok, Err, IsTrue, refl, ap, ◌∙◌, subst, arith}
use Rattle.std.specs.Prelude.{Result}
use Rattle.fab_base.specs.Seen.{Seen}
use Rattle.pcap_file.specs.Capture.{head_bytes}
use Rattle.fab_vectors.specs.Files.{AddsTo, Adds}
use Rattle.fab_vectors.specs.Load.{frames, logins, data_frame, data_frames, record_of, capture}
use Rattle.fab_vectors.specs.declared.MakeFault.{MakeFault}
use Rattle.fab_vectors.specs.declared.frame.LoadFrame.{LoadFrame}
use Rattle.fab_vectors.specs.declared.frame.LoadFrame.TheVariants.{VlanRequest, Solicitation, Login, KeepAlive}
use Rattle.fab_vectors.specs.declared.frame.Step.{Step}
use Rattle.fab_vectors.specs.declared.frame.Step.TheVariants.{Fabric, Server, Watch, Register, Query}
use Rattle.fab_vectors.proofs.NumberedLemmas.{length_numbered}
use Rattle.fab_vectors.proofs.FilesLemmas.{adds_behind, adds_more, adds_ok, adds_err, same_name}

-- ---- 2500 frames

both : {X : Type 0} (m n : ℕ) (xs ys : List X) → length xs ≡ m → length ys ≡ n → length (xs ++ ys) ≡ m + n
both m n xs ys x_is y_is = omega (arith, length-append xs ys)

logins_count : (step : Step) → length (logins step) ≡ 30
unfolding logins
logins_count step = length_numbered (λ login. Login step login) 0 30

data_count : (number port j count : ℕ) → length (data_frames number port j count) ≡ count
unfolding data_frames
data_count number port j count = length_numbered (data_frame number port) j count

total : (x y : LoadFrame) (a b c d e : List LoadFrame) (p : LoadFrame) (f : List LoadFrame) (q : LoadFrame) (g : List LoadFrame) (r : LoadFrame) (h : List LoadFrame) (s : LoadFrame) (i : List LoadFrame)
    → length a ≡ 30 → length b ≡ 30 → length c ≡ 30 → length d ≡ 30 → length e ≡ 30 → length f ≡ 600 → length g ≡ 800 → length h ≡ 800 → length i ≡ 144
    → length ((x ∷ y ∷ []) ++ a ++ b ++ c ++ d ++ e ++ (p ∷ []) ++ f ++ (q ∷ []) ++ g ++ (r ∷ []) ++ h ++ (s ∷ []) ++ i) ≡ 2500
total x y a b c d e p f q g r h s i a_is b_is c_is d_is e_is f_is g_is h_is i_is =
    let n1 = both 2 30 ((x ∷ y ∷ [])) a refl a_is in
    let n2 = both 32 30 ((x ∷ y ∷ []) ++ a) b n1 b_is in
    let n3 = both 62 30 ((x ∷ y ∷ []) ++ a ++ b) c n2 c_is in
    let n4 = both 92 30 ((x ∷ y ∷ []) ++ a ++ b ++ c) d n3 d_is in
    let n5 = both 122 30 ((x ∷ y ∷ []) ++ a ++ b ++ c ++ d) e n4 e_is in
    let n6 = both 152 1 ((x ∷ y ∷ []) ++ a ++ b ++ c ++ d ++ e) (p ∷ []) n5 refl in
    let n7 = both 153 600 ((x ∷ y ∷ []) ++ a ++ b ++ c ++ d ++ e ++ (p ∷ [])) f n6 f_is in
    let n8 = both 753 1 ((x ∷ y ∷ []) ++ a ++ b ++ c ++ d ++ e ++ (p ∷ []) ++ f) (q ∷ []) n7 refl in
    let n9 = both 754 800 ((x ∷ y ∷ []) ++ a ++ b ++ c ++ d ++ e ++ (p ∷ []) ++ f ++ (q ∷ [])) g n8 g_is in
    let n10 = both 1554 1 ((x ∷ y ∷ []) ++ a ++ b ++ c ++ d ++ e ++ (p ∷ []) ++ f ++ (q ∷ []) ++ g) (r ∷ []) n9 refl in
    let n11 = both 1555 800 ((x ∷ y ∷ []) ++ a ++ b ++ c ++ d ++ e ++ (p ∷ []) ++ f ++ (q ∷ []) ++ g ++ (r ∷ [])) h n10 h_is in
    let n12 = both 2355 1 ((x ∷ y ∷ []) ++ a ++ b ++ c ++ d ++ e ++ (p ∷ []) ++ f ++ (q ∷ []) ++ g ++ (r ∷ []) ++ h) (s ∷ []) n11 refl in
    both 2356 144 ((x ∷ y ∷ []) ++ a ++ b ++ c ++ d ++ e ++ (p ∷ []) ++ f ++ (q ∷ []) ++ g ++ (r ∷ []) ++ h ++ (s ∷ [])) i n12 i_is

pub frames_count : (number port : ℕ) → length (frames number port) ≡ 2500
unfolding frames
frames_count number port =
    total VlanRequest Solicitation (logins Fabric) (logins Server) (logins Watch) (logins Register) (logins Query)
    (KeepAlive 1) (data_frames number port 0 600) (KeepAlive 2) (data_frames number port 600 800)
    (KeepAlive 3) (data_frames number port 1400 800) (KeepAlive 4) (data_frames number port 2200 144)
    (logins_count Fabric) (logins_count Server) (logins_count Watch) (logins_count Register) (logins_count Query)
    (data_count number port 0 600) (data_count number port 600 800) (data_count number port 1400 800) (data_count number port 2200 144)

-- ---- the head, and then the records

capture_is : (number port : ℕ) → head_bytes ++ flat_map (record_of port) (frames number port) ≡ capture number port
unfolding capture
capture_is number port = refl

module _ (number port s : ℕ) (a b : Seen) where
  pub head_failed : (e : MakeFault) → Adds {T = Unit {0}} s head_bytes a b (Err e) → Adds {T = ℕ} s (capture number port) a b (Err e)
  head_failed e p =
      subst (λ l. AddsTo {T = ℕ} (a.name s) l a b (Err e)) (capture_is number port)
      (adds_more (a.name s) head_bytes (flat_map (record_of port) (frames number port)) a b e p)

  module _ (d : Seen) (open_ : IsTrue (a.output s)) (p : Adds {T = Unit {0}} s head_bytes a b (Ok tt)) (list : List LoadFrame) (is : list ≡ frames number port) where
    all : (r : Result (Unit {0}) MakeFault) → Adds {T = Unit {0}} s (flat_map (record_of port) list) b d r → Adds {T = Unit {0}} s (capture number port) a d r
    all r q =
        subst (λ l. AddsTo {T = Unit {0}} (a.name s) l a d r) (ap (λ l. head_bytes ++ flat_map (record_of port) l) is ∙ capture_is number port)
        (adds_behind tt (a.name s) head_bytes (flat_map (record_of port) list) a b d r p
        (subst (λ n. AddsTo {T = Unit {0}} n (flat_map (record_of port) list) b d r) (same_name tt s head_bytes a b open_ p) q))

    pub capture_made : (n : ℕ) → Adds {T = Unit {0}} s (flat_map (record_of port) list) b d (Ok tt) → Adds {T = ℕ} s (capture number port) a d (Ok n)
    capture_made n q = adds_ok tt n (a.name s) (capture number port) a d (all (Ok tt) q)

    pub capture_failed : (e : MakeFault) → Adds {T = Unit {0}} s (flat_map (record_of port) list) b d (Err e) → Adds {T = ℕ} s (capture number port) a d (Err e)
    capture_failed e q = adds_err e (a.name s) (capture number port) a d (all (Err e) q)
