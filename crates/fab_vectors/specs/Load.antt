-- The load of a number: which frame of which port stands at which moment, and its captures.
use Rattle.std.specs.Prelude.{ℕ, zero, suc, ◌+◌, ◌*◌, ◌/◌, ◌%◌, ◌^◌, List, [], ◌∷◌, ◌++◌, flat_map}
use Rattle.pcap_file.specs.Capture.{head_bytes, record_bytes}
use Rattle.fab_vectors.specs.Frames.{frame_bytes}
use Rattle.fab_vectors.specs.Names.{numbered, login_number}
use Rattle.fab_vectors.specs.declared.frame.LoadFrame.{LoadFrame}
use Rattle.fab_vectors.specs.declared.frame.LoadFrame.TheVariants.{VlanRequest, Solicitation, Login, KeepAlive, Data}
use Rattle.fab_vectors.specs.declared.frame.Step.{Step}
use Rattle.fab_vectors.specs.declared.frame.Step.TheVariants.{Fabric, Server, Watch, Register, Query}

-- ---- what is drawn

-- the next value: a linear congruence modulo 2 ^ 64 (D. E. Knuth, MMIX)
unfoldable pub next : ℕ → ℕ
next x = (x * 6364136223846793005 + 1442695040888963407) % 2 ^ 64

-- the values x(0), x(1), .. from this number on
abbrev pub value : ℕ → ℕ → ℕ
value number zero = number
value number (suc n) = next (value number n)

-- the high 32 bits of a value
abbrev pub high : ℕ → ℕ
high x = x / 2 ^ 32

-- ---- when a frame stands in its capture, in milliseconds

-- the five frames of a login; only fabric logins take turns over all ports
abbrev pub login_moment : ℕ → Step → ℕ → ℕ
login_moment port Fabric login = 1000 + 10 * login_number port login
login_moment port Server login = 4000 + 10 * login
login_moment port Watch login = 5000 + 10 * login
login_moment port Register login = 6000 + 10 * login
login_moment port Query login = 7000 + 10 * login

-- data frames are numbered by their OX_ID, from 1 on; the first stands at 10000
abbrev pub moment : ℕ → LoadFrame → ℕ
moment port VlanRequest = 100 * port
moment port Solicitation = 100 * port + 10
moment port (Login step login) = login_moment port step login
moment port (KeepAlive turn) = 8000 * turn
moment port (Data ox_id drawn) = 9990 + 10 * ox_id

-- ---- the frames of a port, in the order of their moments

-- this frame of each of the 30 logins
unfoldable pub logins : Step → List LoadFrame
logins step = numbered (λ login. Login step login) 0 30

-- data frame j, counted from 0, takes value 8 * j + port
abbrev pub data_frame : ℕ → ℕ → ℕ → LoadFrame
data_frame number port j = Data (j + 1) (high (value number (8 * j + port)))

-- so many data frames, from frame j on
unfoldable pub data_frames : ℕ → ℕ → ℕ → ℕ → List LoadFrame
data_frames number port j count = numbered (data_frame number port) j count

-- 2500 frames. A keep alive stands before the data frame of its moment: those of 16000, 24000 and 32000 before frames 600, 1400 and 2200.
unfoldable pub frames : ℕ → ℕ → List LoadFrame
frames number port =
    (VlanRequest ∷ Solicitation ∷ [])
    ++ logins Fabric ++ logins Server ++ logins Watch ++ logins Register ++ logins Query
    ++ (KeepAlive 1 ∷ []) ++ data_frames number port 0 600
    ++ (KeepAlive 2 ∷ []) ++ data_frames number port 600 800
    ++ (KeepAlive 3 ∷ []) ++ data_frames number port 1400 800
    ++ (KeepAlive 4 ∷ []) ++ data_frames number port 2200 144

-- ---- the files

-- a frame's record in the capture of its port
unfoldable pub record_of : ℕ → LoadFrame → List ℕ
record_of port frame = record_bytes (moment port frame) (frame_bytes port frame)

-- the capture of a port: the head, and the records of its frames
unfoldable pub capture : ℕ → ℕ → List ℕ
capture number port = head_bytes ++ flat_map (record_of port) (frames number port)
