-- What the library says about itself: the texts of codes, and the offsets of its structs' fields.
use Rattle.std.specs.Prelude.{ℕ, zero, suc, ◌≡◌, ◌+◌, ◌*◌, ◌==◌, if◌then◌else◌, min, List, [], ◌∷◌, ◌++◌, length, take, drop, Option, Some, None, codes}
use Rattle.nogcuvema.specs.Answers.{out_of_range}
use Rattle.shm_base.specs.Codes.{code_of, name_of}
use Rattle.shm_base.specs.declared.errno.Errno.{Errno}
use Rattle.shm_base.specs.declared.errno.Errno.TheVariants.{Eperm, Enoent, Esrch, Eio, Eagain, Enomem, Eacces, Eexist, Einval, Emfile, Enospc, Eidrm, Sigbus, Sigsegv}

pub record Text : Type 0 where
  pub code : ℕ
  pub text : List ℕ

abbrev pub named : Errno → Text
named e = record { code = code_of e; text = name_of e }

-- the text of an errno is its name
abbrev pub errno_texts : List Text
errno_texts = named Eperm ∷ named Enoent ∷ named Esrch ∷ named Eio ∷ named Eagain ∷ named Enomem ∷ named Eacces ∷ named Eexist ∷ named Einval ∷ named Emfile ∷ named Enospc ∷ named Eidrm ∷ named Sigbus ∷ named Sigsegv ∷ []

abbrev pub own_texts : List Text
own_texts =
    record { code = 2001; text = codes "out of memory" }
    ∷ record { code = 2002; text = codes "no machine in the handle" }
    ∷ record { code = 2003; text = codes "a number that no call can carry" }
    ∷ record { code = 2004; text = codes "no more calls can be counted" }
    ∷ record { code = 2005; text = codes "a page on loan is in the way" }
    ∷ record { code = 2006; text = codes "fewer counts than indexes of segments" }
    ∷ record { code = 2011; text = codes "bad limits: SHMMAX" }
    ∷ record { code = 2012; text = codes "bad limits: SHMMNI" }
    ∷ record { code = 2013; text = codes "bad limits: SHMALL" }
    ∷ record { code = 2014; text = codes "bad limits: frames" }
    ∷ record { code = 2015; text = codes "bad limits: MEMLOCK" }
    ∷ record { code = 2016; text = codes "bad limits: the most pieces of a process" }
    ∷ record { code = 2017; text = codes "bad limits: the most processes" }
    ∷ record { code = 2018; text = codes "bad limits: the most slots of a swap area" }
    ∷ record { code = 2019; text = codes "bad limits: the rules" }
    ∷ record { code = 2021; text = codes "start refused: not 1 to 8 swap areas" }
    ∷ record { code = 2022; text = codes "start refused: a swap area without slots, or with too many" }
    ∷ record { code = 2023; text = codes "start refused: too many processes" }
    ∷ record { code = 2024; text = codes "start refused: a pid out of range, or twice" }
    ∷ record { code = 2031; text = codes "admission refused: a pid out of range" }
    ∷ record { code = 2032; text = codes "admission refused: a pid that is taken" }
    ∷ record { code = 2033; text = codes "admission refused: too many processes" }
    ∷ record { code = 2041; text = codes "dismissal refused: no process has the pid" }
    ∷ record { code = 2042; text = codes "dismissal refused: the process is live" }
    ∷ []

abbrev pub text_in : List Text → ℕ → Option (List ℕ)
text_in [] code = None
text_in (t ∷ ts) code = if code == t.code then Some t.text else text_in ts code

-- the text of a code; none if the number is not a code
abbrev pub text_by : ℕ → Option (List ℕ)
text_by code = text_in (record { code = 0; text = codes "done" } ∷ errno_texts ++ own_texts) code

-- a buffer with a text, cut if it is too long, and a zero after it
abbrev pub with_text : List ℕ → List ℕ → List ℕ
with_text text [] = []
with_text text (b ∷ bs) =
    let n = min (length text) (length bs) in
    take n text ++ (0 ∷ drop (n + 1) (b ∷ bs))

-- the text and its length are given; or there is none, and nothing is written
abbrev pub TextTold : Option (List ℕ) → List ℕ → ℕ → ℕ → List ℕ → ℕ → Type 0
TextTold None buffer len code text_new len_new = (code ≡ out_of_range) × (text_new ≡ buffer) × (len_new ≡ len)
TextTold (Some text) buffer len code text_new len_new = (code ≡ 0) × (text_new ≡ with_text text buffer) × (len_new ≡ length text)

abbrev pub ValueTold : Option ℕ → ℕ → ℕ → ℕ → Type 0
ValueTold None old code new = (code ≡ out_of_range) × (new ≡ old)
ValueTold (Some value) old code new = (code ≡ 0) × (new ≡ value)

abbrev pub offsets : ℕ → ℕ → ℕ → List ℕ
offsets at width zero = []
offsets at width (suc n) = at ∷ offsets (at + width) width n

-- the size and the offsets of a struct with this many fields of 64 bits, and then of 32 bits
abbrev pub struct_of : ℕ → ℕ → List ℕ
struct_of wide narrow = (8 * wide + 4 * narrow) ∷ offsets 0 8 wide ++ offsets (8 * wide) 4 narrow

abbrev pub layout_by : ℕ → List ℕ
layout_by which =
    if which == 0 then 16 ∷ 0 ∷ 8 ∷ [] else
    if which == 1 then struct_of 9 0 else
    if which == 2 then struct_of 0 2 else
    if which == 3 then 24 ∷ offsets 0 4 5 else
    if which == 4 then struct_of 0 4 else
    if which == 5 then struct_of 4 12 else
    if which == 6 then struct_of 12 0 else
    if which == 7 then struct_of 2 0 else
    if which == 8 then struct_of 5 0 else
    if which == 9 then struct_of 1 6 else
    if which == 10 then struct_of 0 6 else
    []
