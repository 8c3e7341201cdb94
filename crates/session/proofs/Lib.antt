mod Appending
mod Answering
mod OneMove
mod OneHall
mod OneTranscript
mod Making
