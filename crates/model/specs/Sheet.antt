-- The twelve starred lines of document 01's sheet: one list of calls on bytes, with the replies that they get.
use Rattle.std.specs.Prelude.{◌≡◌, List, [], ◌∷◌, ◌++◌, map, ℕ, replicate}
use Rattle.model.specs.Reply.{Reply, done, refuse}
use Rattle.model.specs.Calls.{checked, completed}

-- ---- records in bytes: kind, processor, register, location, and the four bytes of a value

abbrev row : ℕ → ℕ → ℕ → ℕ → List ℕ → List ℕ
row k p r l v = k ∷ p ∷ r ∷ l ∷ v

-- a value below 256, and 4294967295
abbrev small : ℕ → List ℕ
small v = v ∷ 0 ∷ 0 ∷ 0 ∷ []

abbrev most : List ℕ
most = 255 ∷ 255 ∷ 255 ∷ 255 ∷ []

abbrev x : ℕ
x = 0

abbrev y : ℕ
y = 1

abbrev EAX : ℕ
EAX = 0

abbrev EBX : ℕ
EBX = 1

-- an initial register, a store, a load, a fence, an exchange of a kind from 8 to 11
abbrev register : ℕ → ℕ → ℕ → List ℕ
register p r v = row 2 p r 0 (small v)

abbrev store : ℕ → ℕ → ℕ → List ℕ
store p l v = row 3 p 0 l (small v)

abbrev load : ℕ → ℕ → ℕ → List ℕ
load p r l = row 5 p r l (small 0)

abbrev fence : ℕ → List ℕ
fence p = row 7 p 0 0 (small 0)

abbrev exchange : ℕ → ℕ → ℕ → ℕ → List ℕ
exchange k p r l = row k p r l (small 0)

-- the steps of a trace
abbrev R : ℕ → ℕ → ℕ → List ℕ
R p l v = row 1 p 0 l (small v)

abbrev W : ℕ → ℕ → ℕ → List ℕ
W p l v = row 2 p 0 l (small v)

abbrev D : ℕ → ℕ → ℕ → List ℕ
D p l v = row 3 p 0 l (small v)

abbrev F : ℕ → List ℕ
F p = row 4 p 0 0 (small 0)

abbrev L : ℕ → List ℕ
L p = row 5 p 0 0 (small 0)

abbrev U : ℕ → List ℕ
U p = row 6 p 0 0 (small 0)

-- ---- the tables

abbrev SB : List ℕ
SB = store 0 x 1 ++ load 0 EAX y ++ store 1 y 1 ++ load 1 EBX x

abbrev SBfenced : List ℕ
SBfenced = store 0 x 1 ++ fence 0 ++ load 0 EAX y ++ store 1 y 1 ++ fence 1 ++ load 1 EBX x

abbrev n6 : List ℕ
n6 = store 0 x 1 ++ load 0 EAX x ++ load 0 EBX y ++ store 1 y 2 ++ store 1 x 2

abbrev swap : List ℕ
swap = register 0 EAX 5 ++ exchange 9 0 EAX x

abbrev swap_beside : List ℕ
swap_beside = swap ++ store 1 x 1 ++ load 1 EAX x

abbrev two : ℕ → List ℕ
two k = register 0 EAX 1 ++ register 1 EAX 1 ++ exchange k 0 EAX x ++ exchange k 1 EAX x

abbrev wraps : List ℕ
wraps = row 1 0 0 x most ++ register 0 EAX 1 ++ exchange 10 0 EAX x

-- ---- the lines

pub data Call : Type 0 where
  checks : (table trace : List ℕ) → Call
  finishes : (table trace : List ℕ) → Call

-- a room that is larger than needed, so that what a call keeps of it is seen too
abbrev word_room : List ℕ
word_room = replicate 27 7

abbrev byte_room : List ℕ
byte_room = replicate 50 7

unfoldable pub reply : Call → Reply
unfolding checked completed
reply (checks table trace) = checked table trace word_room
reply (finishes table trace) = completed table trace byte_room

pub record Line : Type 0 where
  pub call : Call
  pub gives : Reply

abbrev line : Call → Reply → Line
line c r = record { call = c; gives = r }

abbrev zeros : ℕ → List ℕ
zeros n = replicate n 0

-- finished after n steps; EAX and EBX of p0 and p1, x and y; reads that own buffers served; all other cells are 0, and the room's last two words are kept
abbrev finished : ℕ → List ℕ → List ℕ → List ℕ → ℕ → Reply
finished n p0 p1 m own = done n (p0 ++ zeros 2 ++ p1 ++ zeros 2 ++ zeros 8 ++ m ++ zeros 6 ++ (own ∷ []) ++ replicate 2 7)

abbrev pair : ℕ → ℕ → List ℕ
pair a b = a ∷ b ∷ []

abbrev refused_at : ℕ → ℕ → Reply
refused_at n i = refuse n i word_room

abbrev completes : ℕ → List ℕ → Reply
completes k steps = done k (steps ++ replicate 2 7)

abbrev pub sheet : List Line
sheet =
    -- 1
    line (checks SB (W 0 x 1 ++ W 1 y 1 ++ R 0 y 0 ++ R 1 x 0 ++ D 0 x 1 ++ D 1 y 1)) (finished 6 (pair 0 0) (pair 0 0) (pair 1 1) 0)
    -- 2
    ∷ line (checks SB (W 0 x 1 ++ W 1 y 1 ++ R 0 y 1 ++ R 1 x 0 ++ D 0 x 1 ++ D 1 y 1)) (refused_at 15 2)
    -- 3
    ∷ line (checks SB (W 0 x 1 ++ W 1 y 1 ++ R 0 y 0 ++ R 1 x 0 ++ D 0 x 1)) (refused_at 12 5)
    -- 4
    ∷ line (finishes SB []) (completes 6 (W 0 x 1 ++ D 0 x 1 ++ R 0 y 0 ++ W 1 y 1 ++ D 1 y 1 ++ R 1 x 1))
    -- 5
    ∷ line (checks SBfenced (W 0 x 1 ++ W 1 y 1 ++ F 0)) (refused_at 17 2)
    -- 6
    ∷ line (checks n6 (W 1 y 2 ++ W 0 x 1 ++ R 0 x 1 ++ R 0 y 0 ++ W 1 x 2 ++ D 1 y 2 ++ D 1 x 2 ++ D 0 x 1)) (finished 8 (pair 1 0) (pair 0 0) (pair 1 2) 1)
    -- 7
    ∷ line (checks n6 (W 1 y 2 ++ W 1 x 2 ++ D 1 x 2)) (refused_at 15 2)
    -- 8
    ∷ line (checks swap (L 0 ++ R 0 x 0 ++ W 0 x 5 ++ D 0 x 5 ++ U 0)) (finished 5 (pair 0 0) (pair 0 0) (pair 5 0) 0)
    -- 9
    ∷ line (checks swap_beside (L 0 ++ W 1 x 1 ++ R 1 x 1)) (refused_at 16 2)
    -- 10
    ∷ line (checks (two 11) (L 0 ++ L 1)) (refused_at 16 1)
    -- 11
    ∷ line (checks (two 10) (R 0 x 0 ++ R 1 x 0 ++ W 0 x 1 ++ W 1 x 1 ++ D 0 x 1 ++ D 1 x 1)) (finished 6 (pair 0 0) (pair 0 0) (pair 1 0) 0)
    -- 12
    ∷ line (checks wraps (row 1 0 0 x most ++ W 0 x 0 ++ D 0 x 0)) (finished 3 (pair 4294967295 0) (pair 0 0) (pair 0 0) 0)
    ∷ []

-- each line's call gets its reply
abbrev pub SheetHolds : Type 0
SheetHolds = map (λ (l : Line). reply l.call) sheet ≡ map (λ (l : Line). l.gives) sheet
