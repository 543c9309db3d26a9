-- A head as five words: its epoch, and the four parts of its link.
use Rattle.std.specs.Prelude.{ℕ, List, [], ◌∷◌, ◌++◌, map, take, drop, slice_index}
use Rattle.std.specs.Int.{w64, to_be_bytes, from_be_bytes}
use Rattle.coniks_proof.specs.declared.values.Head.{Head}

-- the word of the eight bytes from this place on
abbrev pub word_at : List ℕ → ℕ → ℕ
word_at link at = from_be_bytes w64 (take 8 (drop at link))

abbrev pub words_of : Head → List ℕ
words_of h = h.epoch ∷ word_at h.link.0 0 ∷ word_at h.link.0 8 ∷ word_at h.link.0 16 ∷ word_at h.link.0 24 ∷ []

-- the bytes of all words except the first
abbrev pub link_of : List ℕ → List ℕ
link_of ws = to_be_bytes w64 (slice_index ws 1) ++
    (to_be_bytes w64 (slice_index ws 2) ++ (to_be_bytes w64 (slice_index ws 3) ++ to_be_bytes w64 (slice_index ws 4)))

-- the head that these words are
abbrev pub head_in_words : List ℕ → Head
head_in_words ws = record { epoch = slice_index ws 0; link = record { 0 = link_of ws } }

-- the heads that these blocks of words are
abbrev pub heads_in_words : List (List ℕ) → List Head
heads_in_words blocks = map head_in_words blocks
